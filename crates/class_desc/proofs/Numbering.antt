-- The entries of a pool by their numbers.
use Rattle.std.proofs.Common.{◌≡◌, ℕ, zero, suc, ◌+◌, ◌-◌, ◌≤◌, ◌==◌, Bool, true, false, cond}
use Rattle.std.proofs.Common.{List}
use Rattle.std.proofs.Common.{[]}
use Rattle.std.proofs.Common.{◌∷◌, ◌++◌, length, map, Option, Some, None, refl, sym, ap, ◌∙◌}
use Rattle.std.proofs.Common.{arith}
use Rattle.std.specs.Prelude.{slice_get}
use Rattle.std.specs.Option.{option_map}
use Rattle.std.specs.List.{AllByRecursion}
use Rattle.std.proofs.lemmas.Bool.Decides.{nat_tests}
use Rattle.std.proofs.lemmas.List.{length-map}
use Rattle.std.proofs.lemmas.Option.{slice_get-map}
use Rattle.class_desc.specs.Pool.{Entry, Slot, Held, Second, is_wide, slots_of, numbered, held_in}
use Rattle.class_desc.specs.Pool.{entry_of}

-- the slots of an entry in front of others
abbrev in_front : Bool → Entry → List Slot → List Slot
in_front true entry slots = Held entry ∷ Second ∷ slots
in_front false entry slots = Held entry ∷ slots

split : (entry : Entry) (slots : List Slot) → slots_of entry ++ slots
    ≡ in_front (is_wide entry) entry slots
split entry slots = by (is_wide entry)
  where
    by : (w : Bool)
        → cond w (Held entry ∷ Second ∷ []) (Held entry ∷ []) ++ slots ≡ in_front w entry slots
    by true = refl
    by false = refl

-- ---- every entry

-- an entry stands at some place
abbrev pub IsPlaced : List Entry → Entry → Type 0
IsPlaced pool entry = (k : ℕ) × (slice_get pool k ≡ Some entry)

later : (other : Entry) (pool : List Entry) (entry : Entry) → IsPlaced pool entry
    → IsPlaced (other ∷ pool) entry
later other pool entry p = (suc p.0, p.1)

slot_placed : (pool : List Entry) (n : ℕ) (entry : Entry)
    → slice_get (numbered pool) n ≡ Some (Held entry)
    → IsPlaced pool entry
slot_placed [] n entry e = absurd cc
slot_placed (other ∷ pool) n entry e =
    by (is_wide other) n (ap (λ (slots : List Slot). slice_get slots n)
    (sym (split other (numbered pool))) ∙ e)
    (λ k h. later other pool entry (slot_placed pool k entry h))
  where
    same : Some (Held other) ≡ Some (Held entry) → IsPlaced (other ∷ pool) entry
    same h = (zero, held other entry h)
      where
        held : (a b : Entry) → Some (Held a) ≡ Some (Held b) → Some a ≡ Some b
        held a b h = cc

    by : (w : Bool) (n : ℕ)
        → slice_get (in_front w other (numbered pool)) n ≡ Some (Held entry)
        → ((k : ℕ) → slice_get (numbered pool) k ≡ Some (Held entry)
        → IsPlaced (other ∷ pool) entry)
        → IsPlaced (other ∷ pool) entry
    by true zero h more = same h
    by true (suc zero) h more = absurd cc
    by true (suc (suc k)) h more = more k h
    by false zero h more = same h
    by false (suc k) h more = more k h

held_is : (slot : Option Slot) (entry : Entry) → held_in slot ≡ Some entry → slot
    ≡ Some (Held entry)
held_is None entry e = absurd cc
held_is (Some Second) entry e = absurd cc
held_is (Some (Held other)) entry e = cc

-- the entry of a number stands in the list
pub entry_placed : (pool : List Entry) (n : ℕ) (entry : Entry)
    → entry_of pool n ≡ Some entry
    → IsPlaced pool entry
entry_placed pool n entry e = by (n == 0) e
  where
    by : (b : Bool)
        → cond b None (held_in (slice_get (numbered pool) (n - 1))) ≡ Some entry
        → IsPlaced pool entry
    by true e = absurd cc
    by false e = slot_placed pool (n - 1) entry
        (held_is (slice_get (numbered pool) (n - 1)) entry e)

-- there are as many numbers as entries, or more
pub as_many : (pool : List Entry) → length pool ≤ length (numbered pool)
as_many [] = omega arith
as_many (entry ∷ pool) =
    let rest : length pool ≤ length (numbered pool) = as_many pool in
    let front : length (slots_of entry ++ numbered pool)
    ≡ length (in_front (is_wide entry) entry (numbered pool)) =
    ap length (split entry (numbered pool)) in
    by (is_wide entry) rest front
  where
    by : (w : Bool)
        → length pool ≤ length (numbered pool)
        → length (slots_of entry ++ numbered pool) ≡ length (in_front w entry (numbered pool))
        → length (entry ∷ pool) ≤ length (slots_of entry ++ numbered pool)
    by true rest front = omega arith
    by false rest front = omega arith

-- ---- entries of one number

abbrev pub AreNarrow : List Entry → Type 0
AreNarrow = AllByRecursion (λ entry. is_wide entry ≡ false)

pub numbered_narrow : (pool : List Entry) → AreNarrow pool → numbered pool
    ≡ map (λ entry. Held entry) pool
numbered_narrow [] narrow = refl
numbered_narrow (entry ∷ pool) narrow =
    split entry (numbered pool) ∙ ap (λ w. in_front w entry (numbered pool)) narrow.0
    ∙ ap (λ (slots : List Slot). Held entry ∷ slots) (numbered_narrow pool narrow.1)

pub length_narrow : (pool : List Entry) → AreNarrow pool → length (numbered pool) ≡ length pool
length_narrow pool narrow =
    ap length (numbered_narrow pool narrow) ∙ length-map pool (λ entry. Held entry)

-- the entry at a place has the number behind it
pub entry_narrow : (pool : List Entry) (k : ℕ) (entry : Entry)
    → AreNarrow pool
    → slice_get pool k ≡ Some entry
    → entry_of pool (k + 1) ≡ Some entry
entry_narrow pool k entry narrow h =
    let above : (k + 1 == 0) ≡ false = grind (arith, nat_tests) in
    let back : k + 1 - 1 ≡ k = omega arith in
    ap (λ b. cond b None (held_in (slice_get (numbered pool) (k + 1 - 1)))) above
    ∙ ap (λ (j : ℕ). held_in (slice_get (numbered pool) j)) back
    ∙ ap (λ (slots : List Slot). held_in (slice_get slots k)) (numbered_narrow pool narrow)
    ∙ ap held_in (slice_get-map (λ entry. Held entry) pool k
    ∙ ap (option_map (λ entry. Held entry)) h)
