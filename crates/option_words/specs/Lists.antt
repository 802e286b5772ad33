-- Lists of which something is asked or made.
use Rattle.std.specs.Prelude.{List, [], ◌∷◌, Option, Some, None, option_map}

-- a list that isn't empty
abbrev pub nonempty : {A : Type 0} → List A → Option (List A)
nonempty [] = None
nonempty (x ∷ xs) = Some (x ∷ xs)

-- one more in front of others, where all are there
abbrev pub before : {A : Type 0} → Option A → Option (List A) → Option (List A)
before None others = None
before (Some x) others = option_map (λ xs. x ∷ xs) others

-- what is made of each, where something is made of all
abbrev pub each : {A B : Type 0} → (A → Option B) → List A → Option (List B)
each made [] = Some []
each made (x ∷ xs) = before (made x) (each made xs)

abbrev pub at_most_one : {A : Type 0} → List A → Option (Option A)
at_most_one [] = Some None
at_most_one (x ∷ []) = Some (Some x)
at_most_one (x ∷ (y ∷ xs)) = None

-- the one of a list that has no other
abbrev pub only : {A : Type 0} → List A → Option A
only [] = None
only (x ∷ []) = Some x
only (x ∷ (y ∷ xs)) = None
