-- At each place a class has at most one attribute of a kind (JVMS 4.7).
use Rattle.std.specs.Prelude.{List, [], ◌≤◌, length, filter, unwrap_or}
use Rattle.std.specs.List.{AllByRecursion}
use Rattle.class_desc.specs.declared.attribute.Attr.{Attr, out-Attr}
use Rattle.class_desc.specs.declared.attribute.ComponentDesc.{ComponentDesc, out-ComponentDesc}
use Rattle.class_desc.specs.declared.attribute_kind.AttributeKind.{AttributeKind}
use Rattle.class_desc.specs.declared.class.ClassDesc.{ClassDesc}
use Rattle.class_desc.specs.Places.{kind_name, attribute_name}
use Rattle.java_names.specs.Names.{is_text}
use Rattle.class_views.specs.View.{components_in}

-- of each kind, which is told by its name, there is at most one
abbrev pub HasOneOfAKind : List Attr → Type 0
HasOneOfAKind attributes = (kind : AttributeKind)
    → length (filter (λ a. is_text (kind_name kind) (attribute_name a)) attributes) ≤ 1

-- the components that an attribute lists, if it is a Record (JVMS 4.7.30)
abbrev pub components_of : Attr → List ComponentDesc
components_of a = unwrap_or (components_in (out-Attr a)) []

-- at the class, at each member and at each component of a record
pub record HasOneOfEach (d : ClassDesc) : Type 0 where
  pub own : HasOneOfAKind d.attrs
  pub fields : AllByRecursion (λ f. HasOneOfAKind f.attrs) d.fields
  pub methods : AllByRecursion (λ m. HasOneOfAKind m.attrs) d.methods
  pub components : AllByRecursion (λ a. AllByRecursion
      (λ c. HasOneOfAKind (out-ComponentDesc c).attrs) (components_of a)) d.attrs
