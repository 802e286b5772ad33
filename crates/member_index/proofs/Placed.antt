-- The places of those that pass.
use Rattle.std.proofs.Common.{◌≡◌, refl, ap, sym, ◌∙◌, ℕ, suc, Bool, true, false, cond, ◌&&◌, List}
use Rattle.std.proofs.Common.{[], ◌∷◌, ◌++◌, length, map, append_assoc, Some}
use Rattle.std.specs.Prelude.{find, option_map, position, slice_get}
use Rattle.std.proofs.lemmas.List.{map-append}
use Rattle.std.proofs.lemmas.Option.{slice_get-map}
use Rattle.member_index.specs.Places.{places_of, passes_at}
use Rattle.member_index.proofs.Firsts.{next, first, position_first}

-- a place, if what stands there passes
abbrev kept : Bool → ℕ → List ℕ
kept b place = cond b (place ∷ []) []

kept_next : (b : Bool) (place : ℕ) → map next (kept b place) ≡ kept b (suc place)
kept_next true place = refl
kept_next false place = refl

kept_alone : (b : Bool) → kept b 0 ++ [] ≡ [] ++ kept b 0
kept_alone true = refl
kept_alone false = refl

-- one more item
pub places_push : {A : Type 0} (test : A → Bool) (xs : List A) (x : A) →
    places_of test (xs ++ x ∷ []) ≡ places_of test xs ++ cond (test x) (length xs ∷ []) []
places_push test [] x = kept_alone (test x)
places_push test (y ∷ ys) x =
    ap (λ l. kept (test y) 0 ++ map next l) (places_push test ys x)
    ∙ ap (λ l. kept (test y) 0 ++ l)
    (map-append next (places_of test ys) (kept (test x) (length ys)))
    ∙ sym (append_assoc (kept (test y) 0) (map next (places_of test ys))
    (map next (kept (test x) (length ys))))
    ∙ ap (λ l. kept (test y) 0 ++ map next (places_of test ys) ++ l)
    (kept_next (test x) (length ys))

find_next : (test : ℕ → Bool) (places : List ℕ) →
    find test (map next places) ≡ option_map next (find (λ place. test (next place)) places)
find_next test [] = refl
find_next test (p ∷ places) = by (test (next p)) (find_next test places)
  where
    by : (b : Bool) →
        find test (map next places) ≡ option_map next (find (λ place. test (next place)) places) →
        cond b (Some (next p)) (find test (map next places))
        ≡ option_map next (cond b (Some p) (find (λ place. test (next place)) places))
    by true more = refl
    by false more = more

find_first : {A : Type 0} (test more : A → Bool) (xs : List A) →
    find (passes_at more xs) (places_of test xs) ≡ first (λ x. test x && more x) xs
find_first test more [] = refl
find_first test more (x ∷ xs) =
    by (test x)
    (find_next (passes_at more (x ∷ xs)) (places_of test xs)
    ∙ ap (option_map next) (find_first test more xs))
  where
    by : (b : Bool) →
        find (passes_at more (x ∷ xs)) (map next (places_of test xs))
        ≡ option_map next (first (λ y. test y && more y) xs) →
        find (passes_at more (x ∷ xs)) (kept b 0 ++ map next (places_of test xs))
        ≡ cond (b && more x) (Some 0) (option_map next (first (λ y. test y && more y) xs))
    by true behind = ap (λ o. cond (more x) (Some 0) o) behind
    by false behind = behind

first_same : {A : Type 0} (p q : A → Bool) → ((x : A) → p x ≡ q x) → (xs : List A) →
    first p xs ≡ first q xs
first_same p q same [] = refl
first_same p q same (x ∷ xs) =
    ap (λ b. cond b (Some 0) (option_map next (first p xs))) (same x)
    ∙ ap (λ o. cond (q x) (Some 0) (option_map next o)) (first_same p q same xs)

-- the first of the places at which more holds
pub find_placed : {A : Type 0} (test more whole : A → Bool) →
    ((x : A) → (test x && more x) ≡ whole x) → (xs : List A) →
    find (passes_at more xs) (places_of test xs) ≡ position whole xs
find_placed test more whole same xs =
    find_first test more xs ∙ first_same (λ x. test x && more x) whole same xs
    ∙ sym (position_first whole xs)

head_first : {A : Type 0} (test : A → Bool) (xs : List A) →
    slice_get (places_of test xs) 0 ≡ first test xs
head_first test [] = refl
head_first test (x ∷ xs) =
    by (test x)
    (slice_get-map next (places_of test xs) 0 ∙ ap (option_map next) (head_first test xs))
  where
    by : (b : Bool) →
        slice_get (map next (places_of test xs)) 0 ≡ option_map next (first test xs) →
        slice_get (kept b 0 ++ map next (places_of test xs)) 0
        ≡ cond b (Some 0) (option_map next (first test xs))
    by true behind = refl
    by false behind = behind

-- the first of the places
pub head_placed : {A : Type 0} (test : A → Bool) (xs : List A) →
    slice_get (places_of test xs) 0 ≡ position test xs
head_placed test xs = head_first test xs ∙ sym (position_first test xs)
