-- What passing over types at the front of a text tells.
use Rattle.std.specs.Prelude.{◌≡◌, ℕ, Bool, true, List, [], ◌∷◌, ◌++◌}
use Rattle.std.specs.List.{flat_map, list_all}
use Rattle.java_names.specs.Names.{is_class_name}
use Rattle.java_types.specs.declared.types.JType.{JType}
use Rattle.java_types.specs.Types.{type_text}
use Rattle.java_types.specs.Bytes.{closing, semicolon}
use Rattle.java_types.specs.Descriptor.{is_field_type}
use Rattle.descriptor_scan.specs.Forms.{letter_slots, slots}

-- a type of this form stands at the front, and the rest is behind it
pub record IsPassed (is_right : JType → Bool) (text rest : List ℕ) : Type 0 where
  pub passed : JType
  pub form : is_right passed ≡ true
  pub whole : text ≡ type_text passed ++ rest

-- none does
abbrev pub HasNone : (JType → Bool) → List ℕ → Type 0
HasNone is_right text = (other : JType) (more : List ℕ)
    → is_right other ≡ true
    → text ≡ type_text other ++ more → ⊥

-- the name of a class stands at the front, and the rest is behind its ;
pub record IsNamePassed (text rest : List ℕ) : Type 0 where
  pub passed : List ℕ
  pub form : is_class_name passed ≡ true
  pub whole : text ≡ passed ++ (semicolon ∷ rest)

abbrev pub HasNoName : List ℕ → Type 0
HasNoName text =
    (name more : List ℕ) → is_class_name name ≡ true → text ≡ name ++ (semicolon ∷ more) → ⊥

-- the parameters of a method stand at the front, and the rest is behind their )
pub record ArePassed (text rest : List ℕ) (count : ℕ) : Type 0 where
  pub passed : List JType
  pub form : list_all is_field_type passed ≡ true
  pub whole : text ≡ flat_map type_text passed ++ (closing ∷ rest)
  pub counted : count ≡ slots passed

abbrev pub HasNoParameters : List ℕ → Type 0
HasNoParameters text = (others : List JType) (more : List ℕ)
    → list_all is_field_type others ≡ true
    → text ≡ flat_map type_text others ++ (closing ∷ more) → ⊥

-- the slots of the type at the front, from its first byte
abbrev pub first_slots : List ℕ → ℕ
first_slots [] = 1
first_slots (b ∷ text) = letter_slots b
