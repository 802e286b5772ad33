-- What of a class its clients can ask for (JVMS 4), without bytes. Of each kind of attribute the
-- first at its place counts; a list is empty where its attribute is absent.
use Rattle.std.specs.Prelude.{ℕ, Bool, true, false, List, [], ◌∷◌, ◌++◌, length, map, find, ◌==◌}
use Rattle.std.specs.Prelude.{Option, Some, None, is_some, option_map, unwrap_or, if◌then◌else◌}
use Rattle.std.specs.List.{list_all}
use Rattle.std.specs.Option.{option_or}
use Rattle.class_desc.specs.declared.value.Value.{Value}
use Rattle.class_desc.specs.declared.annotation.AnnDesc.{AnnDesc}
use Rattle.class_desc.specs.declared.annotation.ElemValue.{ElemValue}
use Rattle.class_desc.specs.declared.bound_annotations.Ann.{Ann}
use Rattle.class_desc.specs.declared.attribute.InnerEntry.{InnerEntry}
use Rattle.class_desc.specs.declared.attribute.ParamEntry.{ParamEntry}
use Rattle.class_desc.specs.declared.attribute.ComponentDesc.{ComponentDesc, out-ComponentDesc}
use Rattle.class_desc.specs.declared.attribute.Attr.{Attr, out-Attr}
use Rattle.class_desc.specs.declared.attribute.Attr.TheOpen.{Attr-F}
use Rattle.class_desc.specs.declared.class.ClassDesc.{ClassDesc}
use Rattle.class_desc.specs.declared.class.FieldDesc.{FieldDesc}
use Rattle.class_desc.specs.declared.class.MethodDesc.{MethodDesc}
use Rattle.java_names.specs.Names.{is_text}

-- a component of a record (JVMS 4.7.30)
pub record ComponentView : Type 0 where
  pub name : List ℕ
  pub descriptor : List ℕ
  -- by its text, since a text has one signature and a signature one text
  pub signature : Option (List ℕ)
  pub annotations : List Ann

-- a field or a method (JVMS 4.5, 4.6)
pub record MemberView : Type 0 where
  pub flags : ℕ
  pub name : List ℕ
  pub descriptor : List ℕ
  pub signature : Option (List ℕ)
  -- the names of Exceptions
  pub thrown : List (List ℕ)
  pub constant : Option Value
  -- the default value of an annotation's element
  pub default : Option ElemValue
  -- the visible ones first
  pub annotations : List Ann
  -- two lists by parameter, each empty where no annotation stands in it
  pub visible_formals : List (List AnnDesc)
  pub invisible_formals : List (List AnnDesc)
  pub parameters : List ParamEntry
  pub deprecated : Bool
  pub synthetic : Bool

-- a class (JVMS 4.1)
pub record View : Type 0 where
  pub name : List ℕ
  pub flags : ℕ
  -- the entry of InnerClasses for the class itself
  pub own_entry : Option InnerEntry
  pub super_name : Option (List ℕ)
  pub interfaces : List (List ℕ)
  pub signature : Option (List ℕ)
  pub permitted : List (List ℕ)
  -- none for a class without the attribute Record
  pub components : Option (List ComponentView)
  pub annotations : List Ann
  pub deprecated : Bool
  pub fields : List MemberView
  pub methods : List MemberView

-- ---- what an attribute holds, if it is of the kind (JVMS 4.7)

abbrev pub Layer : Type 0
Layer = Attr-F Attr ComponentDesc

abbrev pub constant_in : Layer → Option Value
constant_in (Attr-F.ConstantValue value) = Some value
constant_in other = None

abbrev pub thrown_in : Layer → Option (List (List ℕ))
thrown_in (Attr-F.Exceptions names) = Some names
thrown_in other = None

abbrev pub signature_in : Layer → Option (List ℕ)
signature_in (Attr-F.Signature text) = Some text
signature_in other = None

abbrev pub deprecation_in : Layer → Option (Unit {0})
deprecation_in Attr-F.Deprecated = Some tt
deprecation_in other = None

abbrev pub synthetic_in : Layer → Option (Unit {0})
synthetic_in Attr-F.Synthetic = Some tt
synthetic_in other = None

abbrev pub inner_in : Layer → Option (List InnerEntry)
inner_in (Attr-F.InnerClasses entries) = Some entries
inner_in other = None

abbrev pub components_in : Layer → Option (List ComponentDesc)
components_in (Attr-F.Components components) = Some components
components_in other = None

abbrev pub permitted_in : Layer → Option (List (List ℕ))
permitted_in (Attr-F.PermittedSubclasses names) = Some names
permitted_in other = None

abbrev pub default_in : Layer → Option ElemValue
default_in (Attr-F.AnnotationDefault value) = Some value
default_in other = None

abbrev pub parameters_in : Layer → Option (List ParamEntry)
parameters_in (Attr-F.MethodParameters entries) = Some entries
parameters_in other = None

abbrev pub visible_in : Layer → Option (List AnnDesc)
visible_in (Attr-F.VisibleAnns annotations) = Some annotations
visible_in other = None

abbrev pub invisible_in : Layer → Option (List AnnDesc)
invisible_in (Attr-F.InvisibleAnns annotations) = Some annotations
invisible_in other = None

abbrev pub visible_formals_in : Layer → Option (List (List AnnDesc))
visible_formals_in (Attr-F.VisibleParamAnns formals) = Some formals
visible_formals_in other = None

abbrev pub invisible_formals_in : Layer → Option (List (List AnnDesc))
invisible_formals_in (Attr-F.InvisibleParamAnns formals) = Some formals
invisible_formals_in other = None

-- what the first attribute of a kind holds
abbrev pub first_held : {A : Type 0} → (Layer → Option A) → List Layer → Option A
first_held held [] = None
first_held held (attribute ∷ attributes) =
    option_or (held attribute) (first_held held attributes)

abbrev pub listed : {A : Type 0} → (Layer → Option (List A)) → List Layer → List A
listed held attributes = unwrap_or (first_held held attributes) []

abbrev pub has : (Layer → Option (Unit {0})) → List Layer → Bool
has held attributes = is_some (first_held held attributes)

-- the same of attributes as they stand
abbrev pub first_attribute : {A : Type 0} → (Layer → Option A) → List Attr → Option A
first_attribute held attributes = first_held held (map out-Attr attributes)

abbrev pub listed_in : {A : Type 0} → (Layer → Option (List A)) → List Attr → List A
listed_in held attributes = listed held (map out-Attr attributes)

-- ---- the views, from what the attributes of the place hold

-- the annotations of a place (JVMS 4.7.16, 4.7.17)
abbrev pub annotations_of : List Layer → List Ann
annotations_of attributes =
    map (λ d. record { visible = true; desc = d }) (listed visible_in attributes)
    ++ map (λ d. record { visible = false; desc = d }) (listed invisible_in attributes)

-- lists by parameter (JVMS 4.7.18, 4.7.19), or none where no annotation stands in them
abbrev pub where_some : List (List AnnDesc) → List (List AnnDesc)
where_some formals = if list_all (λ formal. length formal == 0) formals then [] else formals

abbrev pub component_view : List ℕ → List ℕ → List Layer → ComponentView
component_view name descriptor attributes = record {
  name = name;
  descriptor = descriptor;
  signature = first_held signature_in attributes;
  annotations = annotations_of attributes;
}

abbrev pub view_of_component : ComponentDesc → ComponentView
view_of_component component =
    let c = out-ComponentDesc component in
    component_view c.name c.descriptor (map out-Attr c.attrs)

abbrev pub field_view : FieldDesc → List Layer → MemberView
field_view f attributes = record {
  flags = f.flags;
  name = f.name;
  descriptor = f.descriptor;
  signature = first_held signature_in attributes;
  thrown = [];
  constant = first_held constant_in attributes;
  default = None;
  annotations = annotations_of attributes;
  visible_formals = [];
  invisible_formals = [];
  parameters = [];
  deprecated = has deprecation_in attributes;
  synthetic = has synthetic_in attributes;
}

abbrev pub view_of_field : FieldDesc → MemberView
view_of_field f = field_view f (map out-Attr f.attrs)

abbrev pub method_view : MethodDesc → List Layer → MemberView
method_view m attributes = record {
  flags = m.flags;
  name = m.name;
  descriptor = m.descriptor;
  signature = first_held signature_in attributes;
  thrown = listed thrown_in attributes;
  constant = None;
  default = first_held default_in attributes;
  annotations = annotations_of attributes;
  visible_formals = where_some (listed visible_formals_in attributes);
  invisible_formals = where_some (listed invisible_formals_in attributes);
  parameters = listed parameters_in attributes;
  deprecated = has deprecation_in attributes;
  synthetic = has synthetic_in attributes;
}

abbrev pub view_of_method : MethodDesc → MemberView
view_of_method m = method_view m (map out-Attr m.attrs)

-- the first entry of InnerClasses for the class of this name (JVMS 4.7.6)
abbrev pub own_entry_of : List ℕ → List InnerEntry → Option InnerEntry
own_entry_of name entries = find (λ e. is_text e.inner name) entries

abbrev pub class_view : ClassDesc → List Layer → View
class_view d attributes = record {
  name = d.name;
  flags = d.flags;
  own_entry = own_entry_of d.name (listed inner_in attributes);
  super_name = d.super_name;
  interfaces = d.interfaces;
  signature = first_held signature_in attributes;
  permitted = listed permitted_in attributes;
  components = option_map (map view_of_component) (first_held components_in attributes);
  annotations = annotations_of attributes;
  deprecated = has deprecation_in attributes;
  fields = map view_of_field d.fields;
  methods = map view_of_method d.methods;
}

abbrev pub view_of_desc : ClassDesc → View
view_of_desc d = class_view d (map out-Attr d.attrs)
