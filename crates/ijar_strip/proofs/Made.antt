-- A description with these parts is the stripped class.
use Rattle.std.proofs.Common.{◌≡◌, ℕ, List}
use Rattle.std.specs.Prelude.{filter, Option}
use Rattle.std.specs.List.{flat_map}
use Rattle.class_desc.specs.declared.attribute.Attr.{Attr}
use Rattle.class_desc.specs.declared.class.ClassDesc.{ClassDesc}
use Rattle.class_desc.specs.declared.class.FieldDesc.{FieldDesc}
use Rattle.class_desc.specs.declared.class.MethodDesc.{MethodDesc}
use Rattle.class_views.specs.Strip.{stays_field, stays_method, strip_attribute, strip_class}

abbrev pub class_with : ClassDesc → List ℕ → Option (List ℕ) → List (List ℕ) → List FieldDesc →
    List MethodDesc → List Attr → ClassDesc
class_with d name super_name interfaces fields methods attrs = record {
  minor = d.minor;
  major = d.major;
  flags = d.flags;
  name = name;
  super_name = super_name;
  interfaces = interfaces;
  fields = fields;
  methods = methods;
  attrs = attrs;
}

pub stripped_is : (d : ClassDesc) (name : List ℕ) (super_name : Option (List ℕ))
    (interfaces : List (List ℕ)) (fields : List FieldDesc) (methods : List MethodDesc)
    (attrs : List Attr)
    → name ≡ d.name → super_name ≡ d.super_name → interfaces ≡ d.interfaces →
    fields ≡ filter stays_field d.fields → methods ≡ filter stays_method d.methods
    → attrs ≡ flat_map (strip_attribute d) d.attrs →
    class_with d name super_name interfaces fields methods attrs ≡ strip_class d
stripped_is d name super_name interfaces fields methods attrs a b c e f g = cc
