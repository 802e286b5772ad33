-- What holds of each item of a list in two parts.
use Rattle.std.proofs.Common.{◌≡◌, ℕ, List, [], ◌∷◌, ◌++◌, map, refl, ap}
use Rattle.std.specs.List.{AllByRecursion, concat, flat_map}

module _ {A : Type 0} (Holds : A → Type 0) where
  pub all_append : (xs ys : List A) → AllByRecursion Holds xs → AllByRecursion Holds ys
      → AllByRecursion Holds (xs ++ ys)
  all_append [] ys a b = b
  all_append (x ∷ xs) ys a b = (a.0, all_append xs ys a.1 b)

  pub all_front : (xs ys : List A) → AllByRecursion Holds (xs ++ ys) → AllByRecursion Holds xs
  all_front [] ys all = tt
  all_front (x ∷ xs) ys all = (all.0, all_front xs ys all.1)

  pub all_behind : (xs ys : List A) → AllByRecursion Holds (xs ++ ys) → AllByRecursion Holds ys
  all_behind [] ys all = all
  all_behind (x ∷ xs) ys all = all_behind xs ys all.1

-- the lists that a function gives, joined
pub concat-map : {A : Type 0} (f : A → List ℕ) (xs : List A) → concat (map f xs) ≡ flat_map f xs
concat-map f [] = refl
concat-map f (x ∷ xs) = ap (λ t. f x ++ t) (concat-map f xs)
