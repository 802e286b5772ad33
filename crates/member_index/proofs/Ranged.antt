-- What two bisections cut out of a sorted list.
use Rattle.std.proofs.Common.{◌≡◌, refl, ap, sym, ◌∙◌, ℕ, zero, suc, ◌+◌, ◌-◌, ◌<◌, ◌≤◌, arith}
use Rattle.std.proofs.Common.{Bool, true, false, cond, List, [], ◌∷◌, length, take, drop, get_or}
use Rattle.std.specs.List.{filter}
use Rattle.std.specs.List.Sorted.{IsNonDecreasingBy, IsPartitionedBy, IsPartitionPoint}
use Rattle.std.specs.List.Sorted.{IsSortedBy, IsSortedByKey}
use Rattle.std.specs.Ordering.{is_lt, is_le, ordering_index}
use Rattle.std.specs.declared.cmp.Ordering.{Ordering}
use Rattle.std.proofs.lemmas.List.{get_or-drop, length-drop}
use Rattle.std.proofs.lemmas.List.Sorted.{searchable_from_sorted}
use Rattle.class_desc.specs.ClassFile.{Key, is_key}
use Rattle.member_index.specs.Order.{key_cmp, key_at, has_key, IsOrderOf}
use Rattle.member_index.specs.Places.{places_of}
use Rattle.member_index.proofs.Keys.{key_total, key_eq, lt_falls, le_falls, not_lt_le}
use Rattle.member_index.proofs.Keys.{lt_not_eq, not_le_not_eq}

-- ---- what passes stands together

module _ {A : Type 0} (test : A → Bool) where
  front : (xs : List A) (n : ℕ) →
      ((k : ℕ) (d : A) → k < n → k < length xs → test (get_or xs k d) ≡ true) →
      ((k : ℕ) (d : A) → n ≤ k → k < length xs → test (get_or xs k d) ≡ false) →
      filter test xs ≡ take n xs
  front [] zero passes fails = refl
  front [] (suc n) passes fails = refl
  front (x ∷ xs) zero passes fails =
      ap (λ b. cond b (x ∷ filter test xs) (filter test xs))
      (fails 0 x (omega arith) (omega arith))
      ∙ front xs zero (λ k d few in'. absurd (omega (arith, few)))
      (λ k d from few. fails (suc k) d (omega arith) (omega (arith, few)))
  front (x ∷ xs) (suc n) passes fails =
      ap (λ b. cond b (x ∷ filter test xs) (filter test xs))
      (passes 0 x (omega arith) (omega arith))
      ∙ ap (λ l. x ∷ l)
      (front xs n (λ k d few in'. passes (suc k) d (omega (arith, few)) (omega (arith, in')))
      (λ k d from few. fails (suc k) d (omega (arith, from)) (omega (arith, few))))

  behind : (xs : List A) (n : ℕ) →
      ((k : ℕ) (d : A) → k < n → k < length xs → test (get_or xs k d) ≡ false) →
      filter test xs ≡ filter test (drop n xs)
  behind [] zero fails = refl
  behind [] (suc n) fails = refl
  behind (x ∷ xs) zero fails = refl
  behind (x ∷ xs) (suc n) fails =
      ap (λ b. cond b (x ∷ filter test xs) (filter test xs))
      (fails 0 x (omega arith) (omega arith))
      ∙ behind xs n (λ k d few in'. fails (suc k) d (omega (arith, few)) (omega (arith, in')))

-- ---- sorted lists can be bisected

module _ (keys : List Key) (key : Key) where
  abbrev compared : ℕ → Ordering
  compared place = key_cmp (key_at keys place) key

  abbrev comes_before : ℕ → Bool
  comes_before place = is_lt (compared place)

  abbrev comes_upto : ℕ → Bool
  comes_upto place = is_le (compared place)

  rises : (order : List ℕ) → IsSortedByKey (key_at keys) key_cmp order →
      IsNonDecreasingBy (λ place. ordering_index (compared place)) order
  rises order up = searchable_from_sorted key_total (key_at keys) order key up

  pub before_parted : (order : List ℕ) → IsSortedByKey (key_at keys) key_cmp order →
      IsPartitionedBy comes_before order
  before_parted order up = λ i j d below few t.
      lt_falls (compared (get_or order i d)) (compared (get_or order j d))
      (rises order up i j d below few) t

  pub upto_parted : (order : List ℕ) → IsSortedByKey (key_at keys) key_cmp order →
      IsPartitionedBy comes_upto order
  upto_parted order up = λ i j d below few t.
      le_falls (compared (get_or order i d)) (compared (get_or order j d))
      (rises order up i j d below few) t

  pub rest_sorted : (order : List ℕ) (n : ℕ) → IsSortedByKey (key_at keys) key_cmp order →
      IsSortedByKey (key_at keys) key_cmp (drop n order)
  rest_sorted order n up = λ k d from few.
      let long = length-drop n order in
      let high = get_or-drop n order (k + 1) d in
      let low = get_or-drop n order k d in
      ap (λ place. is_lt (key_cmp (key_at keys place) (key_at keys (get_or (drop n order) k d))))
      (high ∙ ap (λ p. get_or order p d)
      (let e : n + (k + 1) ≡ n + k + 1 = omega arith in e))
      ∙ ap (λ place. is_lt (key_cmp (key_at keys (get_or order (n + k + 1) d))
      (key_at keys place))) low
      ∙ up (n + k) d (omega arith) (omega (arith, long, few))

  -- the part that is cut out
  module _ (order : List ℕ) (n m : ℕ)
      (before : IsPartitionPoint (λ place. comes_before place ≡ true)
      (λ place. comes_before place ≡ false) order n)
      (upto : IsPartitionPoint (λ place. comes_upto place ≡ true)
      (λ place. comes_upto place ≡ false) (drop n order) m) where
    abbrev has : ℕ → Bool
    has place = has_key keys key place

    pub cut_out : filter has order ≡ take m (drop n order)
    cut_out =
        behind has order n
        (λ k d few in'. sym (key_eq (key_at keys (get_or order k d)) key)
        ∙ lt_not_eq (compared (get_or order k d)) (before.0 k d (omega arith) few))
        ∙ front has (drop n order) m
        (λ k d few in'. sym (key_eq (key_at keys (get_or (drop n order) k d)) key)
        ∙ not_lt_le (compared (get_or (drop n order) k d))
        (ap comes_before (get_or-drop n order k d)
        ∙ before.1 (n + k) d (omega arith)
        (let long = length-drop n order in omega (arith, in', long)))
        (upto.0 k d (omega arith) few))
        (λ k d from in'. sym (key_eq (key_at keys (get_or (drop n order) k d)) key)
        ∙ not_le_not_eq (compared (get_or (drop n order) k d)) (upto.1 k d from in'))

pub ranged : (keys : List Key) (key : Key) (order : List ℕ) (n m : ℕ) →
    (IsSortedByKey (key_at keys) key_cmp order →
    IsPartitionPoint (λ place. is_lt (key_cmp (key_at keys place) key) ≡ true)
    (λ place. is_lt (key_cmp (key_at keys place) key) ≡ false) order n) →
    (IsSortedByKey (key_at keys) key_cmp (drop n order) →
    IsPartitionPoint (λ place. is_le (key_cmp (key_at keys place) key) ≡ true)
    (λ place. is_le (key_cmp (key_at keys place) key) ≡ false) (drop n order) m) →
    IsOrderOf keys order → take m (drop n order) ≡ places_of (λ k. is_key k key) keys
ranged keys key order n m before upto is =
    sym (cut_out keys key order n m (before is.sorted)
    (upto (rest_sorted keys key order n is.sorted)))
    ∙ is.each key
