-- The pool by its numbers is the pool by its entries, and the file that is put together is the
-- layout.
use Rattle.std.proofs.Common.{◌≡◌, ℕ, ◌+◌, Bool, true, false, cond, not, ◌&&◌, arith, List, []}
use Rattle.std.proofs.Common.{◌∷◌, ◌++◌, length, refl, sym, ap, ◌∙◌, append-nil}
use Rattle.std.specs.Prelude.{filter}
use Rattle.std.specs.List.{flat_map, position_or_len}
use Rattle.std.specs.Int.{w16, to_be_bytes}
use Rattle.std.proofs.lemmas.List.{length-append}
use Rattle.std.proofs.lemmas.List.Sums.{sum_by-cons}
use Rattle.std.proofs.lemmas.Grind.{flat_map-append}
use Rattle.indexmap.specs.IndexSet.{insert_all}
use Rattle.class_desc.specs.declared.class.ClassDesc.{ClassDesc}
use Rattle.class_desc.specs.declared.constant_kind.NumberKind.TheVariants.{Integer, Float, Long}
use Rattle.class_desc.specs.declared.constant_kind.NumberKind.TheVariants.{Double}
use Rattle.class_desc.specs.Layout.{Need, TextNeed, ClassNeed}
use Rattle.class_desc.specs.Layout.{StringNeed, NumberNeed, is_need, width, number_in, need_bytes}
use Rattle.class_desc.specs.Layout.{Item, EntryNumber, item_bytes, item_needs, class_items, needs}
use Rattle.class_desc.specs.Layout.{firsts, pool_of, numbers_needed, head_bytes, pool_bytes}
use Rattle.class_desc.specs.Layout.{layout}
use Rattle.class_writer.specs.Slots.{Slot, Held, BehindLong, BehindDouble, is_slot, slots}
use Rattle.class_writer.specs.Slots.{item_slots, place_in, slot_bytes}
use Rattle.class_writer.specs.Writing.{Draft, IsPut, Writes, file_of_draft}
use Rattle.class_writer.proofs.Equivalences.{slots_equiv}
use Rattle.class_writer.proofs.Firsts.{filter_both, filter_same, insert_all_firsts}

abbrev all_slots : List Need → List Slot
all_slots these = flat_map slots these

-- ---- of equal entries the first

-- the entry whose number it is, or behind whose number
abbrev owner : Slot → Need
owner (Held need) = need
owner (BehindLong bits) = NumberNeed Long bits
owner (BehindDouble bits) = NumberNeed Double bits

abbrev is_others : Need → Slot → Bool
is_others need slot = not (is_need need (owner slot))

cut : {X : Type 0} (b : Bool) (xs ys : List X) → cond b (xs ++ ys) ys ≡ cond b xs [] ++ ys
cut true xs ys = refl
cut false xs ys = refl

others_of : (need y : Need) (rest : List Slot)
    → filter (is_others need) (slots y ++ rest) ≡ cond (not (is_need need y)) (slots y) []
    ++ filter (is_others need) rest
others_of need (TextNeed text) rest = cut (not (is_need need (TextNeed text)))
    (Held (TextNeed text) ∷ []) (filter (is_others need) rest)
others_of need (ClassNeed name) rest = cut (not (is_need need (ClassNeed name)))
    (Held (ClassNeed name) ∷ []) (filter (is_others need) rest)
others_of need (StringNeed text) rest = cut (not (is_need need (StringNeed text)))
    (Held (StringNeed text) ∷ []) (filter (is_others need) rest)
others_of need (NumberNeed Integer bits) rest = cut (not (is_need need (NumberNeed Integer bits)))
    (Held (NumberNeed Integer bits) ∷ []) (filter (is_others need) rest)
others_of need (NumberNeed Float bits) rest = cut (not (is_need need (NumberNeed Float bits)))
    (Held (NumberNeed Float bits) ∷ []) (filter (is_others need) rest)
others_of need (NumberNeed Long bits) rest = by (not (is_need need (NumberNeed Long bits)))
  where
    by : (b : Bool) → cond b (Held (NumberNeed Long bits)
        ∷ cond b (BehindLong bits ∷ filter (is_others need) rest) (filter (is_others need) rest))
        (cond b (BehindLong bits ∷ filter (is_others need) rest) (filter (is_others need) rest))
        ≡ cond b (Held (NumberNeed Long bits) ∷ BehindLong bits ∷ []) []
        ++ filter (is_others need) rest
    by true = refl
    by false = refl
others_of need (NumberNeed Double bits) rest = by (not (is_need need (NumberNeed Double bits)))
  where
    by : (b : Bool) → cond b (Held (NumberNeed Double bits)
        ∷ cond b (BehindDouble bits ∷ filter (is_others need) rest) (filter (is_others need) rest))
        (cond b (BehindDouble bits ∷ filter (is_others need) rest) (filter (is_others need) rest))
        ≡ cond b (Held (NumberNeed Double bits) ∷ BehindDouble bits ∷ []) []
        ++ filter (is_others need) rest
    by true = refl
    by false = refl

others : (need : Need) (ys : List Need)
    → filter (is_others need) (all_slots ys) ≡ all_slots (filter (λ y. not (is_need need y)) ys)
others need [] = refl
others need (y ∷ ys) = others_of need y (all_slots ys)
    ∙ ap (λ t. cond (not (is_need need y)) (slots y) [] ++ t) (others need ys)
    ∙ by (not (is_need need y))
  where
    by : (b : Bool) → cond b (slots y) [] ++ all_slots (filter (λ y. not (is_need need y)) ys)
        ≡ all_slots (cond b (y ∷ filter (λ y. not (is_need need y)) ys)
        (filter (λ y. not (is_need need y)) ys))
    by true = refl
    by false = refl

and_true : (b : Bool) → (b && true) ≡ b
and_true true = refl
and_true false = refl

-- the first slots of an entry and those behind it that aren't the same
firsts_of : (need : Need) (rest : List Slot)
    → firsts is_slot (slots need ++ rest) ≡ slots need
    ++ filter (is_others need) (firsts is_slot rest)
firsts_of (TextNeed text) rest = ap (λ t. Held (TextNeed text) ∷ t)
    (filter_same _ _ same (firsts is_slot rest))
  where
    same : (s : Slot) → not (is_slot (Held (TextNeed text)) s) ≡ is_others (TextNeed text) s
    same (Held y) = refl
    same (BehindLong bits) = refl
    same (BehindDouble bits) = refl
firsts_of (ClassNeed name) rest = ap (λ t. Held (ClassNeed name) ∷ t)
    (filter_same _ _ same (firsts is_slot rest))
  where
    same : (s : Slot) → not (is_slot (Held (ClassNeed name)) s) ≡ is_others (ClassNeed name) s
    same (Held y) = refl
    same (BehindLong bits) = refl
    same (BehindDouble bits) = refl
firsts_of (StringNeed text) rest = ap (λ t. Held (StringNeed text) ∷ t)
    (filter_same _ _ same (firsts is_slot rest))
  where
    same : (s : Slot) → not (is_slot (Held (StringNeed text)) s) ≡ is_others (StringNeed text) s
    same (Held y) = refl
    same (BehindLong bits) = refl
    same (BehindDouble bits) = refl
firsts_of (NumberNeed Integer a) rest = ap (λ t. Held (NumberNeed Integer a) ∷ t)
    (filter_same _ _ same (firsts is_slot rest))
  where
    same : (s : Slot) → not (is_slot (Held (NumberNeed Integer a)) s)
        ≡ is_others (NumberNeed Integer a) s
    same (Held y) = refl
    same (BehindLong bits) = refl
    same (BehindDouble bits) = refl
firsts_of (NumberNeed Float a) rest = ap (λ t. Held (NumberNeed Float a) ∷ t)
    (filter_same _ _ same (firsts is_slot rest))
  where
    same : (s : Slot) → not (is_slot (Held (NumberNeed Float a)) s)
        ≡ is_others (NumberNeed Float a) s
    same (Held y) = refl
    same (BehindLong bits) = refl
    same (BehindDouble bits) = refl
firsts_of (NumberNeed Long a) rest =
    ap (λ t. Held (NumberNeed Long a) ∷ BehindLong a ∷ t)
    (filter_both (λ s. not (is_slot (Held (NumberNeed Long a)) s))
    (λ s. not (is_slot (BehindLong a) s)) (firsts is_slot rest)
    ∙ filter_same _ _ same (firsts is_slot rest))
  where
    same : (s : Slot) → (not (is_slot (BehindLong a) s) && not
        (is_slot (Held (NumberNeed Long a)) s)) ≡ is_others (NumberNeed Long a) s
    same (Held y) = refl
    same (BehindLong bits) = and_true (not (is_slot (BehindLong a) (BehindLong bits)))
    same (BehindDouble bits) = refl
firsts_of (NumberNeed Double a) rest =
    ap (λ t. Held (NumberNeed Double a) ∷ BehindDouble a ∷ t)
    (filter_both (λ s. not (is_slot (Held (NumberNeed Double a)) s))
    (λ s. not (is_slot (BehindDouble a) s)) (firsts is_slot rest)
    ∙ filter_same _ _ same (firsts is_slot rest))
  where
    same : (s : Slot) → (not (is_slot (BehindDouble a) s) && not
        (is_slot (Held (NumberNeed Double a)) s)) ≡ is_others (NumberNeed Double a) s
    same (Held y) = refl
    same (BehindLong bits) = refl
    same (BehindDouble bits) = and_true (not (is_slot (BehindDouble a) (BehindDouble bits)))

slots_firsts : (these : List Need)
    → firsts is_slot (all_slots these) ≡ all_slots (firsts is_need these)
slots_firsts [] = refl
slots_firsts (need ∷ these) =
    firsts_of need (all_slots these)
    ∙ ap (λ t. slots need ++ filter (is_others need) t) (slots_firsts these)
    ∙ ap (λ t. slots need ++ t) (others need (firsts is_need these))

-- ---- numbers

one_more : (b : Bool) (place number : ℕ) → place + 1 ≡ number
    → cond (not b) (1 + place) 0 + 1 ≡ cond b 1 (1 + number)
one_more true place number h = refl
one_more false place number h = omega arith

two_more : (b : Bool) (place number : ℕ) → place + 1 ≡ number
    → cond (not b) (1 + (1 + place)) 0 + 1 ≡ cond b 1 (2 + number)
two_more true place number h = refl
two_more false place number h = omega arith

abbrev place_before : List Need → Need → ℕ
place_before pool need = position_or_len (is_slot (Held need)) (all_slots pool)

behind : (pool : List Need) (need first : Need) → place_before pool need + 1 ≡ number_in pool need
    → place_in (all_slots (first ∷ pool)) need ≡ number_in (first ∷ pool) need
behind pool need (TextNeed text) = one_more (is_need need (TextNeed text)) (place_before pool need)
    (number_in pool need)
behind pool need (ClassNeed name) = one_more (is_need need (ClassNeed name))
    (place_before pool need) (number_in pool need)
behind pool need (StringNeed text) = one_more (is_need need (StringNeed text))
    (place_before pool need) (number_in pool need)
behind pool need (NumberNeed Integer bits) = one_more (is_need need (NumberNeed Integer bits))
    (place_before pool need) (number_in pool need)
behind pool need (NumberNeed Float bits) = one_more (is_need need (NumberNeed Float bits))
    (place_before pool need) (number_in pool need)
behind pool need (NumberNeed Long bits) = two_more (is_need need (NumberNeed Long bits))
    (place_before pool need) (number_in pool need)
behind pool need (NumberNeed Double bits) = two_more (is_need need (NumberNeed Double bits))
    (place_before pool need) (number_in pool need)

place_is : (pool : List Need) (need : Need) → place_in (all_slots pool) need ≡ number_in pool need
place_is [] need = refl
place_is (first ∷ pool) need = behind pool need first (place_is pool need)

slot_count : (need : Need) → length (slots need) ≡ width need
slot_count (TextNeed text) = refl
slot_count (ClassNeed name) = refl
slot_count (StringNeed text) = refl
slot_count (NumberNeed Integer bits) = refl
slot_count (NumberNeed Float bits) = refl
slot_count (NumberNeed Long bits) = refl
slot_count (NumberNeed Double bits) = refl

pub slots_needed : (pool : List Need) → length (all_slots pool) ≡ numbers_needed pool
slots_needed [] = refl
slots_needed (need ∷ pool) =
    length-append (slots need) (all_slots pool)
    ∙ ap (λ n. n + length (all_slots pool)) (slot_count need)
    ∙ ap (λ n. width need + n) (slots_needed pool)
    ∙ sym (sum_by-cons width need pool)

-- ---- bytes

slots_bytes : (pool : List Need) (need : Need)
    → flat_map (slot_bytes (all_slots pool)) (slots need) ≡ need_bytes pool need
slots_bytes pool (TextNeed text) = append-nil (need_bytes pool (TextNeed text))
slots_bytes pool (ClassNeed name) = append-nil _
    ∙ ap (λ n. 7 ∷ to_be_bytes w16 n) (place_is pool (TextNeed name))
slots_bytes pool (StringNeed text) = append-nil _
    ∙ ap (λ n. 8 ∷ to_be_bytes w16 n) (place_is pool (TextNeed text))
slots_bytes pool (NumberNeed Integer bits) = append-nil (need_bytes pool (NumberNeed Integer bits))
slots_bytes pool (NumberNeed Float bits) = append-nil (need_bytes pool (NumberNeed Float bits))
slots_bytes pool (NumberNeed Long bits) = append-nil (need_bytes pool (NumberNeed Long bits))
slots_bytes pool (NumberNeed Double bits) = append-nil (need_bytes pool (NumberNeed Double bits))

entries_bytes : (pool these : List Need)
    → flat_map (slot_bytes (all_slots pool)) (all_slots these) ≡ flat_map (need_bytes pool) these
entries_bytes pool [] = refl
entries_bytes pool (need ∷ these) =
    flat_map-append (slot_bytes (all_slots pool)) (slots need) (all_slots these)
    ∙ ap (λ t. t ++ flat_map (slot_bytes (all_slots pool)) (all_slots these))
    (slots_bytes pool need)
    ∙ ap (λ t. need_bytes pool need ++ t) (entries_bytes pool these)

item_same : (pool : List Need) (item : Item)
    → item_bytes (place_in (all_slots pool)) item ≡ item_bytes (number_in pool) item
item_same pool (EntryNumber need) = ap (to_be_bytes w16) (place_is pool need)
item_same pool _ = refl

items_bytes : (pool : List Need) (items : List Item)
    → flat_map (item_bytes (place_in (all_slots pool))) items
    ≡ flat_map (item_bytes (number_in pool)) items
items_bytes pool [] = refl
items_bytes pool (item ∷ items) = ap
    (λ t. t ++ flat_map (item_bytes (place_in (all_slots pool))) items) (item_same pool item)
    ∙ ap (λ t. item_bytes (number_in pool) item ++ t) (items_bytes pool items)

-- ---- the file

slots_of_items : (items : List Item)
    → flat_map item_slots items ≡ all_slots (flat_map item_needs items)
slots_of_items [] = refl
slots_of_items (item ∷ items) = ap (λ t. item_slots item ++ t) (slots_of_items items)
    ∙ sym (flat_map-append slots (item_needs item) (flat_map item_needs items))

-- the pool that is gathered
pub pool_written : (d : ClassDesc) (first last : Draft)
    → first ≡ record { pool = []; entries = []; body = [] } → Writes (class_items d) first last
    → last.pool ≡ all_slots (pool_of d)
pool_written d first last is_empty w =
    w.pool ∙ ap (λ (draft : Draft). insert_all is_slot draft.pool
    (flat_map item_slots (class_items d))) is_empty
    ∙ insert_all_firsts is_slot slots_equiv (flat_map item_slots (class_items d))
    ∙ ap (firsts is_slot) (slots_of_items (class_items d)) ∙ slots_firsts (needs d)

pub numbers_written : (d : ClassDesc) (first last : Draft)
    → first ≡ record { pool = []; entries = []; body = [] } → Writes (class_items d) first last
    → length last.pool ≡ numbers_needed (pool_of d)
numbers_written d first last is_empty w = ap length (pool_written d first last is_empty w)
    ∙ slots_needed (pool_of d)

-- what is written for all items of a description is its layout
pub is_layout : (d : ClassDesc) (first last : Draft)
    → first ≡ record { pool = []; entries = []; body = [] } → Writes (class_items d) first last
    → file_of_draft d.minor d.major last ≡ layout d
unfolding layout
is_layout d first last is_empty w =
    let pool : last.pool ≡ all_slots (pool_of d) = pool_written d first last is_empty w in
    let nothing_put : IsPut first =
    λ more. ap (λ (draft : Draft). draft.entries) is_empty
    ∙ sym (ap (λ (draft : Draft). flat_map (slot_bytes (draft.pool ++ more)) draft.pool)
    is_empty) in
    let entries : last.entries ≡ flat_map (need_bytes (pool_of d)) (pool_of d) =
    w.put nothing_put [] ∙ ap (λ p. flat_map (slot_bytes p) last.pool) (append-nil last.pool)
    ∙ ap (λ p. flat_map (slot_bytes p) p) pool ∙ entries_bytes (pool_of d) (pool_of d) in
    let body : last.body ≡ flat_map (item_bytes (number_in (pool_of d))) (class_items d) =
    w.body [] ∙ ap (λ (draft : Draft). draft.body
    ++ flat_map (item_bytes (place_in (last.pool ++ []))) (class_items d)) is_empty
    ∙ ap (λ p. flat_map (item_bytes (place_in p)) (class_items d)) (append-nil last.pool ∙ pool)
    ∙ items_bytes (pool_of d) (class_items d) in
    ap (λ n. head_bytes d ++ ((to_be_bytes w16 (n + 1) ++ last.entries) ++ last.body))
    (numbers_written d first last is_empty w)
    ∙ ap (λ e. head_bytes d ++ ((to_be_bytes w16 (numbers_needed (pool_of d) + 1) ++ e)
    ++ last.body)) entries
    ∙ ap (λ b. head_bytes d ++ (pool_bytes (pool_of d) ++ b)) body
