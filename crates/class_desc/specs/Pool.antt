-- The constant pool of a class file (JVMS 4.4), as the list of its entries, and what its numbers
-- name.
use Rattle.std.specs.Prelude.{◌≡◌, ℕ, ◌-◌, ◌<◌, ◌^◌, ◌==◌, Bool, true, false, List, [], ◌∷◌, ◌++◌}
use Rattle.std.specs.Prelude.{length, sum, Option, Some, None, option_map, slice_get}
use Rattle.std.specs.Prelude.{if◌then◌else◌}
use Rattle.std.specs.List.{flat_map}
use Rattle.std.specs.Int.{w16, w32, w64, to_be_bytes}
use Rattle.java_names.specs.Names.{is_among}

pub data Entry : Type 0 where
  -- CONSTANT_Utf8 (JVMS 4.4.7)
  Utf8 : List ℕ → Entry
  -- CONSTANT_Integer and CONSTANT_Float, by their bits (JVMS 4.4.4)
  Integer : ℕ → Entry
  Float : ℕ → Entry
  -- CONSTANT_Long and CONSTANT_Double, by their bits (JVMS 4.4.5)
  Long : ℕ → Entry
  Double : ℕ → Entry
  -- CONSTANT_Class: the number of its name (JVMS 4.4.1)
  ClassRef : ℕ → Entry
  -- CONSTANT_String: the number of its text (JVMS 4.4.3)
  StringRef : ℕ → Entry
  -- any other entry: its tag, and the bytes behind the tag
  Other : ℕ → List ℕ → Entry

-- the fields behind the tag of any other entry, by how many bytes each has (JVMS 4.4.2, 4.4.6,
-- 4.4.8 to 4.4.12)
abbrev pub other_fields : ℕ → Option (List ℕ)
other_fields tag =
    if is_among (9 ∷ 10 ∷ 11 ∷ 12 ∷ 17 ∷ 18 ∷ []) tag then Some (2 ∷ 2 ∷ [])
    else if tag == 15 then Some (1 ∷ 2 ∷ [])
    else if is_among (16 ∷ 19 ∷ 20 ∷ []) tag then Some (2 ∷ [])
    else None

-- how many bytes these are
abbrev pub other_length : ℕ → Option ℕ
other_length tag = option_map sum (other_fields tag)

abbrev pub entry_bytes : Entry → List ℕ
entry_bytes (Utf8 text) = 1 ∷ to_be_bytes w16 (length text) ++ text
entry_bytes (Integer bits) = 3 ∷ to_be_bytes w32 bits
entry_bytes (Float bits) = 4 ∷ to_be_bytes w32 bits
entry_bytes (Long bits) = 5 ∷ to_be_bytes w64 bits
entry_bytes (Double bits) = 6 ∷ to_be_bytes w64 bits
entry_bytes (ClassRef n) = 7 ∷ to_be_bytes w16 n
entry_bytes (StringRef n) = 8 ∷ to_be_bytes w16 n
entry_bytes (Other tag bytes) = tag ∷ bytes

-- what can be written down so
abbrev pub EntryFits : Entry → Type 0
EntryFits (Utf8 text) = length text < 2 ^ 16
EntryFits (Integer bits) = bits < 2 ^ 32
EntryFits (Float bits) = bits < 2 ^ 32
EntryFits (Long bits) = bits < 2 ^ 64
EntryFits (Double bits) = bits < 2 ^ 64
EntryFits (ClassRef n) = n < 2 ^ 16
EntryFits (StringRef n) = n < 2 ^ 16
EntryFits (Other tag bytes) = other_length tag ≡ Some (length bytes)

-- ---- numbers

-- what a number stands for
pub data Slot : Type 0 where
  Held : Entry → Slot
  -- the second number of the Long or Double before it, which names nothing (JVMS 4.4.5)
  Second : Slot

-- whether the entry takes two numbers (JVMS 4.4.5)
abbrev pub is_wide : Entry → Bool
is_wide (Utf8 text) = false
is_wide (Integer bits) = false
is_wide (Float bits) = false
is_wide (Long bits) = true
is_wide (Double bits) = true
is_wide (ClassRef n) = false
is_wide (StringRef n) = false
is_wide (Other tag bytes) = false

abbrev pub slots_of : Entry → List Slot
slots_of entry = if is_wide entry then Held entry ∷ Second ∷ [] else Held entry ∷ []

-- the entries by their numbers
abbrev pub numbered : List Entry → List Slot
numbered pool = flat_map slots_of pool

abbrev pub held_in : Option Slot → Option Entry
held_in None = None
held_in (Some (Held entry)) = Some entry
held_in (Some Second) = None

-- the entry of a number: they count from 1
abbrev pub entry_of : List Entry → ℕ → Option Entry
entry_of pool n = if n == 0 then None else held_in (slice_get (numbered pool) (n - 1))

-- the number is that of this text
abbrev pub NamesText : List Entry → ℕ → List ℕ → Type 0
NamesText pool n text = entry_of pool n ≡ Some (Utf8 text)

-- the number is that of a class of this name
abbrev pub NamesClass : List Entry → ℕ → List ℕ → Type 0
NamesClass pool n name = (i : ℕ) × (entry_of pool n ≡ Some (ClassRef i)) × NamesText pool i name
