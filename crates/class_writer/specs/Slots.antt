-- The pool by numbers: each entry at its own, and behind a long or double one at which nothing
-- stands (JVMS 4.4.5).
use Rattle.std.specs.Prelude.{ℕ, ◌+◌, ◌==◌, Bool, false, List, [], ◌∷◌, ◌++◌, length}
use Rattle.std.specs.List.{flat_map, position_or_len}
use Rattle.std.specs.Int.{w16, to_be_bytes}
use Rattle.class_desc.specs.declared.constant_kind.NumberKind.{NumberKind}
use Rattle.class_desc.specs.declared.constant_kind.NumberKind.TheVariants.{Integer, Float, Long}
use Rattle.class_desc.specs.declared.constant_kind.NumberKind.TheVariants.{Double}
use Rattle.class_desc.specs.Layout.{Need, TextNeed}
use Rattle.class_desc.specs.Layout.{ClassNeed, StringNeed, NumberNeed, is_need, number_tag}
use Rattle.class_desc.specs.Layout.{with_its_text, bits_bytes, item_needs, Item}

pub data Slot : Type 0 where
  Held : Need → Slot
  -- behind the long of these bits
  BehindLong : ℕ → Slot
  -- behind the double of these bits
  BehindDouble : ℕ → Slot

abbrev pub is_slot : Slot → Slot → Bool
is_slot (Held a) (Held b) = is_need a b
is_slot (BehindLong a) (BehindLong b) = a == b
is_slot (BehindDouble a) (BehindDouble b) = a == b
is_slot _ _ = false

-- the numbers that an entry takes
abbrev pub number_slots : NumberKind → ℕ → List Slot
number_slots Integer bits = Held (NumberNeed Integer bits) ∷ []
number_slots Float bits = Held (NumberNeed Float bits) ∷ []
number_slots Long bits = Held (NumberNeed Long bits) ∷ BehindLong bits ∷ []
number_slots Double bits = Held (NumberNeed Double bits) ∷ BehindDouble bits ∷ []

abbrev pub slots : Need → List Slot
slots (TextNeed text) = Held (TextNeed text) ∷ []
slots (ClassNeed name) = Held (ClassNeed name) ∷ []
slots (StringNeed text) = Held (StringNeed text) ∷ []
slots (NumberNeed kind bits) = number_slots kind bits

-- those of an entry and of the text that it names
abbrev pub need_slots : Need → List Slot
need_slots need = flat_map slots (with_its_text need)

abbrev pub item_slots : Item → List Slot
item_slots item = flat_map slots (item_needs item)

-- the number of an entry: they count from 1
abbrev pub place_in : List Slot → Need → ℕ
place_in pool need = position_or_len (is_slot (Held need)) pool + 1

-- the bytes at a number
abbrev pub slot_bytes : List Slot → Slot → List ℕ
slot_bytes pool (Held (TextNeed text)) = 1 ∷ to_be_bytes w16 (length text) ++ text
slot_bytes pool (Held (ClassNeed name)) = 7 ∷ to_be_bytes w16 (place_in pool (TextNeed name))
slot_bytes pool (Held (StringNeed text)) = 8 ∷ to_be_bytes w16 (place_in pool (TextNeed text))
slot_bytes pool (Held (NumberNeed kind bits)) = number_tag kind ∷ bits_bytes kind bits
slot_bytes pool (BehindLong bits) = []
slot_bytes pool (BehindDouble bits) = []
