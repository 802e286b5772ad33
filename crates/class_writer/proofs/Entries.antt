-- The pool of a description as the entries of a class file: their bytes, and their numbers.
use Rattle.std.proofs.Common.{◌≡◌, ℕ, suc, ◌+◌, ◌-◌, ◌<◌, ◌≤◌, ◌^◌, ◌==◌, arith, Bool, true, false}
use Rattle.std.proofs.Common.{cond, ◌||◌, List, [], ◌∷◌, ◌++◌, length, map, refl, sym, ap, ◌∙◌}
use Rattle.std.specs.Prelude.{slice_get, Some, None}
use Rattle.std.specs.List.{flat_map, list_any, AllByRecursion}
use Rattle.std.proofs.lemmas.Bool.Decides.{nat_tests}
use Rattle.std.proofs.lemmas.List.{length-append}
use Rattle.std.proofs.lemmas.List.Sums.{sum_by-cons}
use Rattle.class_desc.specs.Constants.{number_entry}
use Rattle.class_desc.specs.Pool.{Entry, Utf8, ClassRef, StringRef, EntryFits, entry_bytes, Slot}
use Rattle.class_desc.specs.Pool.{Held, Second, is_wide, slots_of, numbered, held_in, entry_of}
use Rattle.class_desc.specs.declared.constant_kind.NumberKind.TheVariants.{Integer, Float, Long}
use Rattle.class_desc.specs.declared.constant_kind.NumberKind.TheVariants.{Double}
use Rattle.class_desc.specs.Layout.{Need, TextNeed}
use Rattle.class_desc.specs.Layout.{ClassNeed, StringNeed, NumberNeed, is_need, width, number_in}
use Rattle.class_desc.specs.Layout.{need_bytes, numbers_needed}
use Rattle.class_writer.proofs.Needed.{IsIn, need_is}

-- the entry of a need, over a pool
abbrev pub entry_in : List Need → Need → Entry
entry_in pool (TextNeed text) = Utf8 text
entry_in pool (ClassNeed name) = ClassRef (number_in pool (TextNeed name))
entry_in pool (StringNeed text) = StringRef (number_in pool (TextNeed text))
entry_in pool (NumberNeed kind bits) = number_entry kind bits

abbrev pub entries_in : List Need → List Need → List Entry
entries_in pool these = map (entry_in pool) these

-- ---- bytes

entry_has_bytes : (pool : List Need) (need : Need)
    → need_bytes pool need ≡ entry_bytes (entry_in pool need)
entry_has_bytes pool (TextNeed text) = refl
entry_has_bytes pool (ClassNeed name) = refl
entry_has_bytes pool (StringNeed text) = refl
entry_has_bytes pool (NumberNeed Integer bits) = refl
entry_has_bytes pool (NumberNeed Float bits) = refl
entry_has_bytes pool (NumberNeed Long bits) = refl
entry_has_bytes pool (NumberNeed Double bits) = refl

pub entries_have_bytes : (pool these : List Need)
    → flat_map (need_bytes pool) these ≡ flat_map entry_bytes (entries_in pool these)
entries_have_bytes pool [] = refl
entries_have_bytes pool (need ∷ these) =
    ap (λ t. t ++ flat_map (need_bytes pool) these) (entry_has_bytes pool need)
    ∙ ap (λ t. entry_bytes (entry_in pool need) ++ t) (entries_have_bytes pool these)

-- ---- how many numbers

entry_has_numbers : (pool : List Need) (need : Need)
    → length (slots_of (entry_in pool need)) ≡ width need
entry_has_numbers pool (TextNeed text) = refl
entry_has_numbers pool (ClassNeed name) = refl
entry_has_numbers pool (StringNeed text) = refl
entry_has_numbers pool (NumberNeed Integer bits) = refl
entry_has_numbers pool (NumberNeed Float bits) = refl
entry_has_numbers pool (NumberNeed Long bits) = refl
entry_has_numbers pool (NumberNeed Double bits) = refl

pub entries_have_numbers : (pool these : List Need)
    → length (numbered (entries_in pool these)) ≡ numbers_needed these
entries_have_numbers pool [] = refl
entries_have_numbers pool (need ∷ these) =
    length-append (slots_of (entry_in pool need)) (numbered (entries_in pool these))
    ∙ ap (λ n. n + length (numbered (entries_in pool these))) (entry_has_numbers pool need)
    ∙ ap (λ n. width need + n) (entries_have_numbers pool these)
    ∙ sym (sum_by-cons width need these)

-- a number is at most the one behind the pool
pub number_within : (pool : List Need) (need : Need)
    → number_in pool need ≤ numbers_needed pool + 1
number_within [] need = omega arith
number_within (first ∷ pool) need = by (is_need need first) (number_within pool need)
    (sum_by-cons width first pool)
  where
    by : (b : Bool) → number_in pool need ≤ numbers_needed pool + 1
        → numbers_needed (first ∷ pool) ≡ width first + numbers_needed pool
        → cond b 1 (width first + number_in pool need) ≤ numbers_needed (first ∷ pool) + 1
    by true rest many = omega arith
    by false rest many = omega arith

-- ---- which entry a number names

-- the need's entry has its number among these entries
record IsNumbered (pool these : List Need) (need : Need) : Type 0 where
  place : ℕ
  number : number_in these need ≡ place + 1
  held : slice_get (numbered (entries_in pool these)) place ≡ Some (Held (entry_in pool need))

first_slot : (entry : Entry) (rest : List Slot)
    → slice_get (slots_of entry ++ rest) 0 ≡ Some (Held entry)
first_slot entry rest = by (is_wide entry)
  where
    by : (w : Bool)
        → slice_get (cond w (Held entry ∷ Second ∷ []) (Held entry ∷ []) ++ rest) 0
        ≡ Some (Held entry)
    by true = refl
    by false = refl

later_slot : (slots rest : List Slot) (k : ℕ)
    → slice_get (slots ++ rest) (length slots + k) ≡ slice_get rest k
later_slot [] rest k = let none : 0 + k ≡ k = omega arith in ap (slice_get rest) none
later_slot (slot ∷ slots) rest k =
    let further : suc (length slots) + k ≡ suc (length slots + k) = omega arith in
    ap (slice_get (slot ∷ (slots ++ rest))) further ∙ later_slot slots rest k

numbered_among : (pool : List Need) (need : Need) (these : List Need) → IsIn need these
    → IsNumbered pool these need
numbered_among pool need [] h = absurd (let e : false ≡ true = h in cc)
numbered_among pool need (first ∷ these) h =
    by (is_need need first) refl h (numbered_among pool need these)
  where
    by : (b : Bool) → is_need need first ≡ b → IsIn need (first ∷ these)
        → (IsIn need these → IsNumbered pool these need)
        → IsNumbered pool (first ∷ these) need
    by true same h behind = record {
      place = 0;
      number = ap (λ b. cond b 1 (width first + number_in these need)) same;
      held = first_slot (entry_in pool first) (numbered (entries_in pool these))
          ∙ ap (λ n. Some (Held (entry_in pool n))) (need_is need first same);
    }
    by false differs h behind =
        let at = behind (sym (ap (λ b. b || list_any (is_need need) these) differs) ∙ h) in
        let wide : length (slots_of (entry_in pool first)) ≡ width first =
        entry_has_numbers pool first in
        let number : number_in these need ≡ at.place + 1 = at.number in
        let further : width first + number_in these need
        ≡ length (slots_of (entry_in pool first)) + at.place + 1 = omega arith in
        record {
          place = length (slots_of (entry_in pool first)) + at.place;
          number = ap (λ b. cond b 1 (width first + number_in these need)) differs ∙ further;
          held = later_slot (slots_of (entry_in pool first)) (numbered (entries_in pool these))
              at.place ∙ at.held;
        }

pub number_names : (pool : List Need) (need : Need) → IsIn need pool
    → entry_of (entries_in pool pool) (number_in pool need) ≡ Some (entry_in pool need)
number_names pool need h =
    let entries = entries_in pool pool in
    let at = numbered_among pool need pool h in
    let above : (at.place + 1 == 0) ≡ false = grind (arith, nat_tests) in
    let back : at.place + 1 - 1 ≡ at.place = omega arith in
    ap (entry_of entries) at.number
    ∙ ap (λ b. cond b None (held_in (slice_get (numbered entries) (at.place + 1 - 1)))) above
    ∙ ap (λ (k : ℕ). held_in (slice_get (numbered entries) k)) back
    ∙ ap held_in at.held

-- ---- what can be written down

abbrev pub IsByte : ℕ → Type 0
IsByte b = b < 2 ^ 8

-- the length of a text is kept in two bytes, and the bits of a number in four or eight
abbrev pub NeedFits : Need → Type 0
NeedFits (TextNeed text) = (length text < 2 ^ 16) × AllByRecursion IsByte text
NeedFits (ClassNeed name) = Unit {0}
NeedFits (StringNeed text) = Unit {0}
NeedFits (NumberNeed kind bits) = EntryFits (number_entry kind bits)

pub entries_fit : (pool : List Need) → numbers_needed pool ≤ 65534 → (these : List Need)
    → AllByRecursion NeedFits these → AllByRecursion EntryFits (entries_in pool these)
entries_fit pool few [] fit = tt
entries_fit pool few (need ∷ these) fit =
    (one need fit.0, entries_fit pool few these fit.1)
  where
    one : (need : Need) → NeedFits need → EntryFits (entry_in pool need)
    one (TextNeed text) fit = fit.0
    one (ClassNeed name) fit =
        let within : number_in pool (TextNeed name) ≤ numbers_needed pool + 1 =
        number_within pool (TextNeed name) in omega arith
    one (StringNeed text) fit =
        let within : number_in pool (TextNeed text) ≤ numbers_needed pool + 1 =
        number_within pool (TextNeed text) in omega arith
    one (NumberNeed kind bits) fit = fit
