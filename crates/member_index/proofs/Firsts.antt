-- The first place in a list that passes.
use Rattle.std.proofs.Common.{◌≡◌, refl, ap, sym, ◌∙◌, ℕ, zero, suc, ◌+◌, ◌≤◌, arith, Bool, true}
use Rattle.std.proofs.Common.{false, cond, not, List, [], ◌∷◌, ◌++◌, length, ◌⊎◌, ◌||◌, inl, inr}
use Rattle.std.proofs.Common.{Option, Some, None}
use Rattle.std.specs.Prelude.{position, option_map, nat_lt, slice_get}
use Rattle.std.specs.List.{position_or_len, list_any}
use Rattle.std.proofs.lemmas.Bool.{cases_Bool, ltb-true, ltb-false, lt-ltb, le-ltb}

abbrev pub next : ℕ → ℕ
next place = suc place

-- the same by recursion
abbrev pub first : {A : Type 0} → (A → Bool) → List A → Option ℕ
first test [] = None
first test (x ∷ xs) = cond (test x) (Some 0) (option_map next (first test xs))

abbrev within : ℕ → ℕ → Option ℕ
within n size = cond (nat_lt n size) (Some n) None

within_next : (n size : ℕ) → within (1 + n) (suc size) ≡ option_map next (within n size)
within_next n size = by (cases_Bool (nat_lt n size))
  where
    by : (nat_lt n size ≡ true) ⊎ (nat_lt n size ≡ false) →
        within (1 + n) (suc size) ≡ option_map next (within n size)
    by (inl t) =
        let few = ltb-true n size t in
        ap (λ b. cond b (Some (1 + n)) None) (lt-ltb (1 + n) (suc size) (omega (arith, few)))
        ∙ ap (λ k. Some k) (let e : 1 + n ≡ suc n = omega arith in e)
        ∙ sym (ap (λ b. option_map next (cond b (Some n) None)) t)
    by (inr f) =
        let past = ltb-false n size f in
        ap (λ b. cond b (Some (1 + n)) None) (le-ltb (1 + n) (suc size) (omega (arith, past)))
        ∙ sym (ap (λ b. option_map next (cond b (Some n) None)) f)

pub position_first : {A : Type 0} (test : A → Bool) (xs : List A) →
    position test xs ≡ first test xs
position_first test [] = refl
position_first test (x ∷ xs) = by (test x) (position_first test xs)
  where
    by : (b : Bool) → position test xs ≡ first test xs →
        within (cond (not b) (1 + position_or_len test xs) 0) (suc (length xs))
        ≡ cond b (Some 0) (option_map next (first test xs))
    by true more = ap (λ b. cond b (Some 0) None) (lt-ltb 0 (suc (length xs)) (omega arith))
    by false more =
        within_next (position_or_len test xs) (length xs) ∙ ap (option_map next) more

-- ---- a longer list

abbrev or_behind : Option ℕ → ℕ → Option ℕ → Option ℕ
or_behind (Some place) size behind = Some place
or_behind None size behind = option_map (λ place. size + place) behind

behind_next : (size : ℕ) (behind : Option ℕ) →
    option_map next (option_map (λ place. size + place) behind)
    ≡ option_map (λ place. suc size + place) behind
behind_next size None = refl
behind_next size (Some k) =
    ap (λ n. Some n) (let e : suc (size + k) ≡ suc size + k = omega arith in e)

pub first_append : {A : Type 0} (test : A → Bool) (xs ys : List A) →
    first test (xs ++ ys) ≡ or_behind (first test xs) (length xs) (first test ys)
first_append test [] ys = by (first test ys)
  where
    by : (o : Option ℕ) → o ≡ option_map (λ place. 0 + place) o
    by None = refl
    by (Some k) = ap (λ n. Some n) (let e : k ≡ 0 + k = omega arith in e)
first_append test (x ∷ xs) ys = by (test x) (first test xs) (first_append test xs ys)
  where
    by : (b : Bool) (o : Option ℕ) →
        first test (xs ++ ys) ≡ or_behind o (length xs) (first test ys) →
        cond b (Some 0) (option_map next (first test (xs ++ ys)))
        ≡ or_behind (cond b (Some 0) (option_map next o)) (suc (length xs)) (first test ys)
    by true o more = refl
    by false (Some k) more = ap (option_map next) more
    by false None more =
        ap (option_map next) more ∙ behind_next (length xs) (first test ys)

module _ {A : Type 0} (test : A → Bool) (xs ys : List A) where
  pub first_stays : (place : ℕ) → first test xs ≡ Some place →
      first test (xs ++ ys) ≡ Some place
  first_stays place e =
      first_append test xs ys ∙ ap (λ o. or_behind o (length xs) (first test ys)) e

  pub first_behind : (place : ℕ) → first test xs ≡ None → first test (xs ++ ys) ≡ Some place →
      length xs ≤ place
  first_behind place none e =
      by (first test ys)
      (sym (ap (λ o. or_behind o (length xs) (first test ys)) none)
      ∙ sym (first_append test xs ys) ∙ e)
    where
      by : (o : Option ℕ) → option_map (λ k. length xs + k) o ≡ Some place → length xs ≤ place
      by None f = absurd cc
      by (Some k) f =
          let same : length xs + k ≡ place = cc in omega (arith, same)

-- ---- what stands there

pub record Passes {A : Type 0} (test : A → Bool) (xs : List A) (place : ℕ) : Type 0 where
  pub item : A
  pub there : slice_get xs place ≡ Some item
  pub passes : test item ≡ true

pub first_passes : {A : Type 0} (test : A → Bool) (xs : List A) (place : ℕ) →
    first test xs ≡ Some place → Passes test xs place
first_passes test [] place e = absurd cc
first_passes test (x ∷ xs) place e =
    by (test x) refl (first test xs) (first_passes test xs) place e
  where
    by : (b : Bool) → test x ≡ b → (o : Option ℕ) →
        ((k : ℕ) → o ≡ Some k → Passes test xs k) → (k : ℕ) →
        cond b (Some 0) (option_map next o) ≡ Some k → Passes test (x ∷ xs) k
    by true t o more zero f = record { item = x; there = refl; passes = t }
    by true t o more (suc k) f = absurd cc
    by false t None more k f = absurd cc
    by false t (Some m) more zero f = absurd cc
    by false t (Some m) more (suc k) f =
        let same : m ≡ k = cc in
        let one = more k (ap (λ n. Some n) same) in
        record { item = one.item; there = one.there; passes = one.passes }

pub first_listed : {A : Type 0} (test : A → Bool) (xs : List A) (place : ℕ) →
    first test xs ≡ Some place → list_any test xs ≡ true
first_listed test [] place e = absurd cc
first_listed test (x ∷ xs) place e =
    by (test x) (first test xs) (first_listed test xs) place e
  where
    by : (b : Bool) (o : Option ℕ) → ((k : ℕ) → o ≡ Some k → list_any test xs ≡ true) →
        (k : ℕ) → cond b (Some 0) (option_map next o) ≡ Some k →
        (b || list_any test xs) ≡ true
    by true o more k f = refl
    by false None more k f = absurd cc
    by false (Some m) more k f = more m refl
