-- Lists that are used as stacks: the last item is the top.
use Rattle.std.specs.Prelude.{List, [], ◌∷◌, Option, Some, None}

-- the top, where there is one
abbrev pub top : {X : Type 0} → List X → Option X
top [] = None
top (x ∷ []) = Some x
top (x ∷ y ∷ xs) = top (y ∷ xs)

-- what is below the top
abbrev pub below : {X : Type 0} → List X → List X
below [] = []
below (x ∷ []) = []
below (x ∷ y ∷ xs) = x ∷ below (y ∷ xs)
