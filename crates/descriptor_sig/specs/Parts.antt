-- Parts of descriptors, and what reading one from the front of a text tells.
-- Of an alternative it tells no more than is known from the bytes that
-- were looked at: those in front of what is left, and the first of these.
use Rattle.std.specs.Prelude.{◌≡◌, ℕ, ◌≤◌, Bool, true, false, ◌==◌, Option, Some, None}
use Rattle.std.specs.Prelude.{if◌then◌else◌, List, [], ◌∷◌, ◌++◌, replicate, codes, Result, Ok}
use Rattle.std.specs.Prelude.{Err}
use Rattle.std.specs.List.{flat_map, list_all}
use Rattle.java_types.specs.declared.types.JType.{JType}
use Rattle.java_types.specs.declared.types.JSig.{JSig}
use Rattle.java_names.specs.Names.{is_among, is_class_name}
use Rattle.java_types.specs.Types.{type_text}
use Rattle.java_types.specs.Bytes.{bracket, slash}
use Rattle.java_types.specs.Descriptor.{is_element, is_field_type, is_return_type}
use Rattle.java_types.specs.Descriptor.{DescriptorSpells}
use Rattle.descriptor_sig.specs.declared.stop.Stop.{Stop}
use Rattle.descriptor_sig.specs.declared.stop.Stop.TheVariants.{Stuck, Memory}

-- a value of the form, and its text
pub record Spelling {A : Type 0} (is_right : A → Bool) (text_of : A → List ℕ) (item : A)
    (text : List ℕ) : Type 0 where
  pub form : is_right item ≡ true
  pub whole : text ≡ text_of item

-- whether a part of a class's name has begun behind a byte, from the
-- same in front of it; none where the byte can't stand (JVMS 4.2.1)
abbrev pub part_behind : Bool → ℕ → Option Bool
part_behind begun b =
    if b == slash then (if begun then Some false else None)
    else (if is_among (codes ".;[/") b then None else Some true)

-- the name of a class, and a ; behind it
abbrev pub NameSpells : List ℕ → List ℕ → Type 0
NameSpells = Spelling is_class_name (λ name. name ++ codes ";")

abbrev pub ElementSpells : JType → List ℕ → Type 0
ElementSpells = Spelling is_element type_text

abbrev pub FieldSpells : JType → List ℕ → Type 0
FieldSpells = Spelling is_field_type type_text

abbrev pub ReturnSpells : JType → List ℕ → Type 0
ReturnSpells = Spelling is_return_type type_text

-- the types of parameters, and a ) behind them
abbrev pub FormalsSpell : List JType → List ℕ → Type 0
FormalsSpell =
    Spelling (list_all is_field_type) (λ formals. flat_map type_text formals ++ codes ")")

-- the descriptor of a method, from what is behind its (
abbrev pub MethodSpells : JSig → List ℕ → Type 0
MethodSpells sig text = DescriptorSpells sig (codes "(" ++ text)

-- a text that goes on as one that was left: with the same first byte, or not at all
abbrev pub as_left : List ℕ → List ℕ → List ℕ
as_left [] later = []
as_left (b ∷ left) later = b ∷ later

-- the item stands at the front of the text
pub record IsRead {A : Type 0} (Spells : A → List ℕ → Type 0) (text left : List ℕ)
    (item : A) : Type 0 where
  pub front : List ℕ
  pub whole : text ≡ front ++ left
  pub spells : Spells item front

-- no item does: what is in front begins one, and with what is left there is none, whatever follows
pub record IsStuck {A : Type 0} (Spells : A → List ℕ → Type 0) (text left : List ℕ) : Type 0 where
  pub front : List ℕ
  pub whole : text ≡ front ++ left
  pub begun : (item : A) × (more : List ℕ) × Spells item (front ++ more)
  pub refused : (item : A) (spelled more later : List ℕ) → Spells item spelled
      → spelled ++ more ≡ front ++ as_left left later → ⊥

-- what reading a part tells, from the text before it and what was left
abbrev pub Parsed : {A : Type 0} → (A → List ℕ → Type 0) → Result A Stop → List ℕ → List ℕ → Type 0
Parsed Spells (Ok item) text left = IsRead Spells text left item
Parsed Spells (Err Stuck) text left = IsStuck Spells text left
Parsed Spells (Err Memory) text left = Unit {0}

-- the descriptor is the whole text, and the only one
pub record IsOnly (text : List ℕ) (sig : JSig) : Type 0 where
  pub spells : DescriptorSpells sig text
  pub only : (other : JSig) → DescriptorSpells other text → other ≡ sig

-- the whole text is none
pub record IsStuckWhole (text left : List ℕ) : Type 0 where
  pub front : List ℕ
  pub whole : text ≡ front ++ left
  pub begun : (sig : JSig) × (more : List ℕ) × DescriptorSpells sig (front ++ more)
  pub refused : (sig : JSig) (later : List ℕ) → DescriptorSpells sig (front ++ as_left left later)
      → ⊥

abbrev pub ParsedWhole : Result JSig Stop → List ℕ → List ℕ → Type 0
ParsedWhole (Ok sig) text left = IsOnly text sig
ParsedWhole (Err Stuck) text left = IsStuckWhole text left
ParsedWhole (Err Memory) text left = Unit {0}

-- the text does not begin with the byte
abbrev pub BeginsOtherwise : ℕ → List ℕ → Type 0
BeginsOtherwise b text = (later : List ℕ) → text ≡ b ∷ later → ⊥

-- as many [ as a text begins with, at most 255
pub record AreAll (text left : List ℕ) (dims : ℕ) : Type 0 where
  pub whole : text ≡ replicate dims bracket ++ left
  pub few : dims ≤ 255
  pub next : BeginsOtherwise bracket left

pub record AreTooMany (text left : List ℕ) : Type 0 where
  pub dims : ℕ
  pub most : dims ≡ 255
  pub whole : text ≡ replicate dims bracket ++ left
  pub later : List ℕ
  pub next : left ≡ bracket ∷ later

abbrev pub DimensionsRead : Result ℕ Stop → List ℕ → List ℕ → Type 0
DimensionsRead (Ok dims) text left = AreAll text left dims
DimensionsRead (Err Stuck) text left = AreTooMany text left
DimensionsRead (Err Memory) text left = ⊥
