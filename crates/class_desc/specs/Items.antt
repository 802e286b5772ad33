-- How items of a class file stand one behind the other, and what numbers of the pool name.
use Rattle.std.specs.Prelude.{◌≡◌, ℕ, ◌<◌, ◌^◌, List, [], ◌∷◌, ◌++◌, length, Option, Some, None}
use Rattle.std.specs.Int.{w8, w16, w32, to_be_bytes}
use Rattle.class_desc.specs.declared.constant_kind.ConstantKind.{ConstantKind}
use Rattle.class_desc.specs.declared.constant_kind.ConstantKind.TheVariants as kind
use Rattle.class_desc.specs.declared.constant_kind.NumberKind.{NumberKind}
use Rattle.class_desc.specs.declared.value.Value.{Value}
use Rattle.class_desc.specs.declared.value.Value.TheVariants as value
use Rattle.java_names.specs.ModifiedUtf8.{IsModifiedUtf8}
use Rattle.class_desc.specs.Constants.{number_entry, number_value}
use Rattle.class_desc.specs.Forms.{IsAnyText, IsClassName}
use Rattle.class_desc.specs.Pool.{Entry, StringRef, entry_of, NamesText, NamesClass}

-- ---- what numbers name

-- the number names this text, which has this form
pub record NamesForm (Names : ℕ → List ℕ → Type 0) (IsForm : List ℕ
    → Type 0) (n : ℕ) (text : List ℕ) : Type 0 where
  pub fits : n < 2 ^ 16
  pub named : Names n text
  pub modified : IsModifiedUtf8 text
  pub form : IsForm text

-- the number is that of a text of this form
abbrev pub NamesTextOf : List Entry → (List ℕ → Type 0) → ℕ → List ℕ → Type 0
NamesTextOf pool IsForm = NamesForm (NamesText pool) IsForm

-- the number is that of a class with this name
abbrev pub NamesClassOf : List Entry → ℕ → List ℕ → Type 0
NamesClassOf pool = NamesForm (NamesClass pool) IsClassName

-- the number is that of a string of this text (JVMS 4.4.3)
abbrev pub NamesString : List Entry → ℕ → List ℕ → Type 0
NamesString pool n text = (i : ℕ) × (entry_of pool n ≡ Some (StringRef i)) × NamesText pool i text

-- the number 0, or that of what it names
abbrev pub OrZero : {A : Type 0} → (ℕ → A → Type 0) → ℕ → Option A → Type 0
OrZero Names n None = n ≡ 0
OrZero Names n (Some item) = Names n item

-- the number is that of a number of this kind, with this value
pub record NamesNumber (pool : List Entry) (kind : NumberKind) (n : ℕ) (constant : Value) : Type 0
  where
    pub bits : ℕ
    pub named : entry_of pool n ≡ Some (number_entry kind bits)
    pub is : constant ≡ number_value kind bits

-- the number names a text, whatever its form, which is this constant
pub record NamesTextConstant (Names : ℕ → List ℕ → Type 0) (n : ℕ) (constant : Value) : Type 0
  where
    pub text : List ℕ
    pub named : NamesForm Names IsAnyText n text
    pub is : constant ≡ value.Str text

-- The number is that of a constant of this kind, if there is one. What a text is depends on where
-- the constant stands.
abbrev pub NamesConstant : (ℕ → List ℕ → Type 0) → List Entry → Option ConstantKind → ℕ → Value
    → Type 0
NamesConstant Names pool None n constant = ⊥
NamesConstant Names pool (Some (kind.Number number)) n constant =
    NamesNumber pool number n constant
NamesConstant Names pool (Some kind.Text) n constant = NamesTextConstant Names n constant

-- ---- items

-- the number, in two bytes, of what it names
pub record Numbered {A : Type 0} (Names : ℕ → A → Type 0) (item : A) (bytes : List ℕ) : Type 0
  where
    pub number : ℕ
    pub fits : number < 2 ^ 16
    pub named : Names number item
    pub is : bytes ≡ to_be_bytes w16 number

-- flags, in two bytes
abbrev pub FlagsSpell : ℕ → List ℕ → Type 0
FlagsSpell flags bytes = (flags < 2 ^ 16) × (bytes ≡ to_be_bytes w16 flags)

-- one behind the other
pub record Both (First Second : List ℕ → Type 0) (bytes : List ℕ) : Type 0 where
  pub front : List ℕ
  pub rest : List ℕ
  pub whole : bytes ≡ front ++ rest
  pub first : First front
  pub second : Second rest

-- behind a tag, in one byte
pub record Tagged (tag : ℕ) (Rest : List ℕ → Type 0) (bytes : List ℕ) : Type 0 where
  pub rest : List ℕ
  pub whole : bytes ≡ tag ∷ rest
  pub spelled : Rest rest

-- behind its length, in four bytes (JVMS 4.7)
pub record Within (Body : List ℕ → Type 0) (bytes : List ℕ) : Type 0 where
  pub body : List ℕ
  pub fits : length body < 2 ^ 32
  pub whole : bytes ≡ to_be_bytes w32 (length body) ++ body
  pub spelled : Body body

-- the items, one behind the other
abbrev pub EachSpells : {A : Type 0} → (A → List ℕ → Type 0) → List A → List ℕ → Type 0
EachSpells Spells [] bytes = bytes ≡ []
EachSpells Spells (item ∷ items) bytes = (front : List ℕ) × (rest : List ℕ)
    × (bytes ≡ front ++ rest) × Spells item front × EachSpells Spells items rest

-- the items behind their count
pub record CountedSpells {A : Type 0} (Spells : A → List ℕ
    → Type 0) (items : List A) (bytes : List ℕ) : Type 0 where
  pub rest : List ℕ
  pub count : length items < 2 ^ 16
  pub whole : bytes ≡ to_be_bytes w16 (length items) ++ rest
  pub each : EachSpells Spells items rest

-- the items, one for each parameter, behind their count in one byte (JVMS 4.7.18, 4.7.19, 4.7.24)
pub record ForParametersSpell {A : Type 0} (Spells : A → List ℕ
    → Type 0) (items : List A) (bytes : List ℕ) : Type 0 where
  pub rest : List ℕ
  pub count : length items < 2 ^ 8
  pub whole : bytes ≡ to_be_bytes w8 (length items) ++ rest
  pub each : EachSpells Spells items rest
