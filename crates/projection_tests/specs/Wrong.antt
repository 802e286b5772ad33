-- Wrong strippings: a list of classes and what is left of it, where some question of a client that
-- succeeds loses its answer.
use Rattle.std.specs.Prelude.{ℕ, List, [], ◌∷◌, ◌++◌, map, codes, pos, Some}
use Rattle.class_desc.specs.ClassFile.{object_name}
use Rattle.class_desc.specs.declared.attribute.Attr.{roll-Attr}
use Rattle.class_desc.specs.declared.attribute.Attr.TheOpen.{Attr-F}
use Rattle.class_desc.specs.declared.class.ClassDesc.{ClassDesc}
use Rattle.class_desc.specs.declared.class.FieldDesc.{FieldDesc}
use Rattle.class_desc.specs.declared.value.Value.TheVariants.{Integer}
use Rattle.class_views.specs.View.{Layer}
use Rattle.class_views_tests.specs.Annotations.{described}
use Rattle.projection.specs.Written.{KeepsAnswers}

-- the field x of type int
abbrev pub x_field : ℕ → List Layer → FieldDesc
x_field flags layers = record {
  flags = flags;
  name = codes "x";
  descriptor = codes "I";
  attrs = map roll-Attr layers;
}

-- a class without attributes and methods
abbrev pub described_class : ℕ → List ℕ → List ℕ → List (List ℕ) → List FieldDesc → ClassDesc
described_class flags name super_name interfaces fields = record {
  minor = 0;
  major = 61;
  flags = flags;
  name = name;
  super_name = Some super_name;
  interfaces = interfaces;
  fields = fields;
  methods = [];
  attrs = [];
}

-- the public class A with these fields
abbrev pub a_with : List FieldDesc → List ClassDesc
a_with fields = described_class 0x0021 (codes "A") object_name [] fields ∷ []

-- the same of these flags and superinterfaces
abbrev pub a_of : ℕ → List (List ℕ) → List ClassDesc
a_of flags interfaces = described_class flags (codes "A") object_name interfaces [] ∷ []

abbrev pub below_a : List ClassDesc
below_a = described_class 0x0021 (codes "B") (codes "A") [] [] ∷ []

abbrev pub five : Layer
five = Attr-F.ConstantValue (Integer (pos 5))

abbrev pub visible : Layer
visible = Attr-F.VisibleAnns (described (codes "LV;") ∷ [])

abbrev pub LosesAnAnswer : List ClassDesc → List ClassDesc → Type 0
LosesAnAnswer list left = KeepsAnswers list left → ⊥

-- what is wrong, each by itself
pub record WrongOnes : Type 0 where
  -- a member without an access flag goes
  pub package_member : LosesAnAnswer (a_with (x_field 0x0000 [] ∷ [])) (a_with [])
  pub static_member : LosesAnAnswer (a_with (x_field 0x0009 [] ∷ [])) (a_with [])
  pub constant : LosesAnAnswer (a_with (x_field 0x0019 (five ∷ []) ∷ []))
      (a_with (x_field 0x0019 [] ∷ []))
  pub annotations : LosesAnAnswer (a_with (x_field 0x0001 (visible ∷ []) ∷ []))
      (a_with (x_field 0x0001 [] ∷ []))
  pub class_flags : LosesAnAnswer (a_of 0x0021 []) (a_of 0x0031 [])
  pub interfaces : LosesAnAnswer (a_of 0x0021 (codes "I" ∷ [])) (a_of 0x0021 [])
  -- the superclass of a class that stays goes
  pub superclass : LosesAnAnswer (a_with [] ++ below_a) below_a
