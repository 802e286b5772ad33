-- The first member that passes, by its place.
use Rattle.std.proofs.Common.{◌≡◌, refl, ap, sym, ◌∙◌, ℕ, zero, suc, ◌<◌, arith, Bool}
use Rattle.std.proofs.Common.{true}
use Rattle.std.proofs.Common.{false}
use Rattle.std.proofs.Common.{cond, ◌||◌, List, [], ◌∷◌, length, map, ◌⊎◌, inl, inr, Option, Some}
use Rattle.std.proofs.Common.{None}
use Rattle.std.specs.Prelude.{slice_get, find, position, option_map, option_and_then, is_some}
use Rattle.std.specs.Prelude.{nat_lt, IfSome}
use Rattle.std.specs.List.{position_or_len, list_any}
use Rattle.std.proofs.lemmas.Bool.{cases_Bool, ltb-true, ltb-false}
use Rattle.std.proofs.lemmas.Option.{slice_get_past, slice_get-map}
use Rattle.std.proofs.lemmas.List.Folds.{find_at}

pub find_map : {A B : Type 0} (f : A → B) (test : B → Bool) (xs : List A) →
    find test (map f xs) ≡ option_map f (find (λ x. test (f x)) xs)
find_map f test [] = refl
find_map f test (x ∷ xs) = by (test (f x)) (find_map f test xs)
  where
    by : (b : Bool) →
        find test (map f xs) ≡ option_map f (find (λ x. test (f x)) xs) →
        cond b (Some (f x)) (find test (map f xs))
        ≡ option_map f (cond b (Some x) (find (λ x. test (f x)) xs))
    by true more = refl
    by false more = more

pub find_placed : {A : Type 0} (test : A → Bool) (xs : List A) →
    find test xs ≡ option_and_then (slice_get xs) (position test xs)
find_placed test xs =
    find_at test xs ∙ by (position_or_len test xs) (cases_Bool (nat_lt (position_or_len test xs)
    (length xs)))
  where
    by : (n : ℕ) → (nat_lt n (length xs) ≡ true) ⊎ (nat_lt n (length xs) ≡ false) →
        slice_get xs n
        ≡ option_and_then (slice_get xs) (cond (nat_lt n (length xs)) (Some n) None)
    by n (inl t) =
        sym (ap (λ b. option_and_then (slice_get xs) (cond b (Some n) None)) t)
    by n (inr f) =
        slice_get_past xs n (ltb-false n (length xs) f)
        ∙ sym (ap (λ b. option_and_then (slice_get xs) (cond b (Some n) None)) f)

pub any_placed : {A B : Type 0} (f : A → B) (test : B → Bool) (xs : List A) →
    list_any (λ x. test (f x)) xs ≡ is_some (find test (map f xs))
any_placed f test [] = refl
any_placed f test (x ∷ xs) = by (test (f x)) (any_placed f test xs)
  where
    by : (b : Bool) → list_any (λ y. test (f y)) xs ≡ is_some (find test (map f xs)) →
        (b || list_any (λ y. test (f y)) xs)
        ≡ is_some (cond b (Some (f x)) (find test (map f xs)))
    by true more = refl
    by false more = more

module _ {A B : Type 0} (f : A → B) (test : B → Bool) (xs : List A) where
  pub none_placed : position (λ x. test (f x)) xs ≡ None → find test (map f xs) ≡ None
  none_placed e =
      find_map f test xs
      ∙ ap (option_map f) (find_placed (λ x. test (f x)) xs
      ∙ ap (option_and_then (slice_get xs)) e)

  pub some_placed : (i : ℕ) (x : A) → position (λ x. test (f x)) xs ≡ Some i →
      slice_get xs i ≡ Some x → find test (map f xs) ≡ Some (f x)
  some_placed i x e at =
      find_map f test xs
      ∙ ap (option_map f)
      (find_placed (λ x. test (f x)) xs ∙ ap (option_and_then (slice_get xs)) e ∙ at)

-- ---- places

pub position_within : {A : Type 0} (test : A → Bool) (xs : List A) (o : Option ℕ) →
    o ≡ position test xs → IfSome o (λ i. i < length xs)
position_within test xs None e = tt
position_within test xs (Some i) e =
    by (cases_Bool (nat_lt (position_or_len test xs) (length xs)))
  where
    by : (nat_lt (position_or_len test xs) (length xs) ≡ true)
        ⊎ (nat_lt (position_or_len test xs) (length xs) ≡ false) → i < length xs
    by (inl t) =
        let is : Some i ≡ Some (position_or_len test xs) =
        e ∙ ap (λ b. cond b (Some (position_or_len test xs)) None) t in
        let same : i ≡ position_or_len test xs = cc in
        let few = ltb-true (position_or_len test xs) (length xs) t in
        omega (arith, same, few)
    by (inr f) =
        let is : Some i ≡ None =
        e ∙ ap (λ b. cond b (Some (position_or_len test xs)) None) f in
        absurd cc

module _ {A B : Type 0} (f : A → B) (test : B → Bool) (xs : List A) where
  -- the first that passes stands at its place
  pub found_placed : find test (map f xs)
      ≡ option_and_then (slice_get (map f xs)) (position (λ x. test (f x)) xs)
  found_placed =
      find_map f test xs
      ∙ ap (option_map f) (find_placed (λ x. test (f x)) xs)
      ∙ by (position (λ x. test (f x)) xs)
    where
      by : (o : Option ℕ) → option_map f (option_and_then (slice_get xs) o)
          ≡ option_and_then (slice_get (map f xs)) o
      by None = refl
      by (Some i) = sym (slice_get-map f xs i)

  some_there : (ys : List A) (i : ℕ) → i < length ys → is_some (slice_get ys i) ≡ true
  some_there [] i few = absurd (omega (arith, few))
  some_there (y ∷ ys) zero few = refl
  some_there (y ∷ ys) (suc i) few = some_there ys i (omega (arith, few))

  pub is_placed : is_some (find test (map f xs)) ≡ is_some (position (λ x. test (f x)) xs)
  is_placed =
      ap is_some (find_map f test xs) ∙ mapped (find (λ x. test (f x)) xs)
      ∙ by (position (λ x. test (f x)) xs) refl
    where
      mapped : (o : Option A) → is_some (option_map f o) ≡ is_some o
      mapped None = refl
      mapped (Some x) = refl

      by : (o : Option ℕ) → o ≡ position (λ x. test (f x)) xs →
          is_some (find (λ x. test (f x)) xs) ≡ is_some o
      by None e =
          ap is_some (find_placed (λ x. test (f x)) xs ∙ ap (option_and_then (slice_get xs))
          (sym e))
      by (Some i) e =
          let few = position_within (λ x. test (f x)) xs (Some i) e in
          ap is_some (find_placed (λ x. test (f x)) xs ∙ ap (option_and_then (slice_get xs))
          (sym e))
          ∙ some_there xs i few
