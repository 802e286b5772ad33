-- What a view tells of a description.
use Rattle.std.specs.Prelude.{◌≡◌, ℕ, true, false, List, [], ◌∷◌, map, codes, pos, Some, None}
use Rattle.class_desc.specs.ClassFile.{object_name}
use Rattle.class_desc.specs.declared.value.Value.TheVariants.{Integer}
use Rattle.class_desc.specs.declared.annotation.ElemValue.TheVariants.{ClassOf}
use Rattle.class_desc.specs.declared.attribute.Attr.{Attr, roll-Attr}
use Rattle.class_desc.specs.declared.attribute.Attr.TheOpen.{Attr-F}
use Rattle.class_desc.specs.declared.attribute.InnerEntry.{InnerEntry}
use Rattle.class_desc.specs.declared.class.ClassDesc.{ClassDesc}
use Rattle.class_desc.specs.declared.class.FieldDesc.{FieldDesc}
use Rattle.class_desc.specs.declared.class.MethodDesc.{MethodDesc}
use Rattle.class_views.specs.View.{Layer, view_of_desc, view_of_field, view_of_method}
use Rattle.class_desc.specs.declared.bound_annotations.Ann.{Ann}
use Rattle.class_views_tests.specs.Classes.{class}
use Rattle.class_views_tests.specs.Annotations.{described, annotation}

-- an entry of a member class
abbrev pub entry : ℕ → List ℕ → InnerEntry
entry flags inner =
    record { inner = inner; outer = Some (codes "A"); name = Some (codes "M"); flags = flags }

-- each kind of attribute, some twice, at whichever place
abbrev pub everywhere : List Layer
everywhere =
    Attr-F.InvisibleAnns (described (codes "LI;") ∷ [])
    ∷ Attr-F.Signature (codes "TT;")
    ∷ Attr-F.Signature (codes "TU;")
    ∷ Attr-F.ConstantValue (Integer (pos 5))
    ∷ Attr-F.ConstantValue (Integer (pos 6))
    ∷ Attr-F.Exceptions (codes "E" ∷ [])
    ∷ Attr-F.Deprecated
    ∷ Attr-F.Synthetic
    ∷ Attr-F.InnerClasses (entry 1 (codes "N") ∷ entry 2 (codes "M") ∷ entry 3 (codes "M") ∷ [])
    ∷ Attr-F.InnerClasses (entry 4 (codes "M") ∷ [])
    ∷ Attr-F.PermittedSubclasses (codes "P" ∷ codes "Q" ∷ [])
    ∷ Attr-F.AnnotationDefault (ClassOf (codes "V"))
    ∷ Attr-F.MethodParameters (record { name = None; flags = 0x1000 } ∷ [])
    ∷ Attr-F.VisibleAnns (described (codes "LV;") ∷ described (codes "LW;") ∷ [])
    ∷ Attr-F.VisibleParamAnns ([] ∷ (described (codes "LV;") ∷ []) ∷ [])
    ∷ Attr-F.InvisibleParamAnns ([] ∷ [] ∷ [])
    ∷ []

abbrev pub attributes : List Layer → List Attr
attributes layers = map roll-Attr layers

abbrev pub sorted : List Ann
sorted =
    annotation true (codes "LV;") ∷ annotation true (codes "LW;") ∷ annotation false (codes "LI;")
    ∷
    []

abbrev pub field_f : FieldDesc
field_f = record {
  flags = 0x0019;
  name = codes "f";
  descriptor = codes "I";
  attrs = attributes everywhere;
}

abbrev pub FieldAgrees : Type 0
FieldAgrees =
    view_of_field field_f
    ≡ record {
      flags = 0x0019;
      name = codes "f";
      descriptor = codes "I";
      signature = Some (codes "TT;");
      thrown = [];
      constant = Some (Integer (pos 5));
      default = None;
      annotations = sorted;
      visible_formals = [];
      invisible_formals = [];
      parameters = [];
      deprecated = true;
      synthetic = true;
    }

abbrev pub method_m : MethodDesc
method_m = record {
  flags = 0x0401;
  name = codes "m";
  descriptor = codes "(II)V";
  attrs = attributes everywhere;
}

abbrev pub MethodAgrees : Type 0
MethodAgrees =
    view_of_method method_m
    ≡ record {
      flags = 0x0401;
      name = codes "m";
      descriptor = codes "(II)V";
      signature = Some (codes "TT;");
      thrown = codes "E" ∷ [];
      constant = None;
      default = Some (ClassOf (codes "V"));
      annotations = sorted;
      visible_formals = [] ∷ (described (codes "LV;") ∷ []) ∷ [];
      invisible_formals = [];
      parameters = record { name = None; flags = 0x1000 } ∷ [];
      deprecated = true;
      synthetic = true;
    }

-- the class M with these attributes, and no members
abbrev pub with_attributes : List Layer → ClassDesc
with_attributes layers = record {
  minor = 0;
  major = 61;
  flags = 0x0021;
  name = codes "M";
  super_name = Some object_name;
  interfaces = codes "I" ∷ [];
  fields = [];
  methods = [];
  attrs = attributes layers;
}

abbrev pub ClassAgrees : Type 0
ClassAgrees =
    view_of_desc (with_attributes everywhere)
    ≡ record {
      name = codes "M";
      flags = 0x0021;
      own_entry = Some (entry 2 (codes "M"));
      super_name = Some object_name;
      interfaces = codes "I" ∷ [];
      signature = Some (codes "TT;");
      permitted = codes "P" ∷ codes "Q" ∷ [];
      components = None;
      annotations = sorted;
      deprecated = true;
      fields = [];
      methods = [];
    }

abbrev pub PlainAgrees : Type 0
PlainAgrees =
    view_of_desc (with_attributes []) ≡ class (codes "M") (codes "I" ∷ []) [] []
