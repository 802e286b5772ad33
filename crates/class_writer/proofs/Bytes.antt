-- What is written for texts of bytes is bytes.
use Rattle.std.proofs.Common.{ℕ, ◌+◌, arith, List, [], ◌∷◌, ◌++◌, length}
use Rattle.std.specs.List.{flat_map, AllByRecursion}
use Rattle.std.specs.Int.{w16, w32, w64, to_be_bytes}
use Rattle.class_desc.specs.declared.class.ClassDesc.{ClassDesc}
use Rattle.class_desc.specs.ClassFile.{magic}
use Rattle.class_desc.specs.declared.constant_kind.NumberKind.TheVariants.{Integer, Float, Long}
use Rattle.class_desc.specs.declared.constant_kind.NumberKind.TheVariants.{Double}
use Rattle.class_desc.specs.Layout.{Need, TextNeed, ClassNeed}
use Rattle.class_desc.specs.Layout.{StringNeed, NumberNeed, is_need, number_in, need_bytes, Item}
use Rattle.class_desc.specs.Layout.{Tag, Flags, ParameterCount, Count, BodyLength, EntryNumber}
use Rattle.class_desc.specs.Layout.{NoEntry, item_bytes, class_items, needs, pool_of, head_bytes}
use Rattle.class_desc.specs.Layout.{pool_bytes, numbers_needed, layout}
use Rattle.class_writer.proofs.Entries.{IsByte, NeedFits}
use Rattle.class_writer.proofs.Needed.{all_firsts}
use Rattle.lemmas.proofs.Lists.{all_append}

abbrev AreBytes : List ℕ → Type 0
AreBytes bytes = AllByRecursion IsByte bytes

-- a tag is a byte, and every other item is written in bytes whatever it is
abbrev pub ItemIsBytes : Item → Type 0
ItemIsBytes (Tag tag) = IsByte tag
ItemIsBytes _ = Unit {0}

two_bytes : (n : ℕ) → AreBytes (to_be_bytes w16 n)
two_bytes n = (omega arith, (omega arith, tt))

four_bytes : (n : ℕ) → AreBytes (to_be_bytes w32 n)
four_bytes n = (omega arith, (omega arith, (omega arith, (omega arith, tt))))

eight_bytes : (n : ℕ) → AreBytes (to_be_bytes w64 n)
eight_bytes n = (
  omega arith,
  (
    omega arith,
    (
      omega arith,
      (omega arith, (omega arith, (omega arith, (omega arith, (omega arith, tt))))),
    ),
  ),
)

both : (xs ys : List ℕ) → AreBytes xs → AreBytes ys → AreBytes (xs ++ ys)
both xs ys = all_append IsByte xs ys

need_is_bytes : (pool : List Need) (need : Need) → NeedFits need → AreBytes (need_bytes pool need)
need_is_bytes pool (TextNeed text) fit =
    (omega arith, both (to_be_bytes w16 (length text)) text (two_bytes (length text)) fit.1)
need_is_bytes pool (ClassNeed name) fit =
    (omega arith, two_bytes (number_in pool (TextNeed name)))
need_is_bytes pool (StringNeed text) fit =
    (omega arith, two_bytes (number_in pool (TextNeed text)))
need_is_bytes pool (NumberNeed Integer bits) fit = (omega arith, four_bytes bits)
need_is_bytes pool (NumberNeed Float bits) fit = (omega arith, four_bytes bits)
need_is_bytes pool (NumberNeed Long bits) fit = (omega arith, eight_bytes bits)
need_is_bytes pool (NumberNeed Double bits) fit = (omega arith, eight_bytes bits)

needs_are_bytes : (pool these : List Need) → AllByRecursion NeedFits these
    → AreBytes (flat_map (need_bytes pool) these)
needs_are_bytes pool [] fit = tt
needs_are_bytes pool (need ∷ these) fit =
    both (need_bytes pool need) (flat_map (need_bytes pool) these)
    (need_is_bytes pool need fit.0) (needs_are_bytes pool these fit.1)

item_is_bytes : (number : Need → ℕ) (item : Item) → ItemIsBytes item
    → AreBytes (item_bytes number item)
item_is_bytes number (Tag tag) is = (is, tt)
item_is_bytes number (Flags flags) is = two_bytes flags
item_is_bytes number (ParameterCount count) is = (omega arith, tt)
item_is_bytes number (Count count) is = two_bytes count
item_is_bytes number (BodyLength bytes) is = four_bytes bytes
item_is_bytes number (EntryNumber need) is = two_bytes (number need)
item_is_bytes number NoEntry is = two_bytes 0

items_are_bytes : (number : Need → ℕ) (items : List Item) → AllByRecursion ItemIsBytes items
    → AreBytes (flat_map (item_bytes number) items)
items_are_bytes number [] are = tt
items_are_bytes number (item ∷ items) are =
    both (item_bytes number item) (flat_map (item_bytes number) items)
    (item_is_bytes number item are.0) (items_are_bytes number items are.1)

pub layout_is_bytes : (d : ClassDesc) → AllByRecursion NeedFits (needs d)
    → AllByRecursion ItemIsBytes (class_items d) → AreBytes (layout d)
unfolding layout
layout_is_bytes d fit are =
    let pool = pool_of d in
    let entries = flat_map (need_bytes pool) pool in
    let behind = flat_map (item_bytes (number_in pool)) (class_items d) in
    let versions = to_be_bytes w16 d.minor ++ to_be_bytes w16 d.major in
    both (head_bytes d) (pool_bytes pool ++ behind)
    (both (to_be_bytes w32 magic) versions (four_bytes magic)
    (both (to_be_bytes w16 d.minor) (to_be_bytes w16 d.major)
    (two_bytes d.minor) (two_bytes d.major)))
    (both (pool_bytes pool) behind
    (both (to_be_bytes w16 (numbers_needed pool + 1)) entries
    (two_bytes (numbers_needed pool + 1))
    (needs_are_bytes pool pool (all_firsts NeedFits is_need (needs d) fit)))
    (items_are_bytes (number_in pool) (class_items d) are))
