-- A list cut at a set of its places. A place is given by what stands before it in the list, and by
-- the item right before it.
use Rattle.std.specs.Prelude.{Bool, false, ◌||◌, if◌then◌else◌, List, [], ◌∷◌, ◌++◌}

-- the places behind an item, as places of what follows it
abbrev pub behind_item : {X : Type 0} → (List X → X → Bool) → X → List X → X → Bool
behind_item is x before y = is (x ∷ before) y

-- an item in front of the first part
abbrev pub with_item : {X : Type 0} → X → List (List X × X) → List (List X × X)
with_item x [] = []
with_item x ((before, end) ∷ parts) = (x ∷ before, end) ∷ parts

-- what stands between neighbouring places, each time the items before the last one, and that
abbrev pub between : {X : Type 0} → (List X → X → Bool) → List X → List (List X × X)
between is [] = []
between is (x ∷ xs) = if is [] x then ([], x) ∷ between (behind_item is x) xs
    else with_item x (between (behind_item is x) xs)

-- one of the places is in the list
abbrev pub has_place : {X : Type 0} → (List X → X → Bool) → List X → Bool
has_place is [] = false
has_place is (x ∷ xs) = is [] x || has_place (behind_item is x) xs

-- what stands behind the last place
abbrev pub behind : {X : Type 0} → (List X → X → Bool) → List X → List X
behind is [] = []
behind is (x ∷ xs) = if has_place is (x ∷ xs) then behind (behind_item is x) xs else x ∷ xs

-- the items right before these places
abbrev pub items_at : {X : Type 0} → (List X → X → Bool) → List X → List X
items_at is [] = []
items_at is (x ∷ xs) = if is [] x then x ∷ items_at (behind_item is x) xs
    else items_at (behind_item is x) xs

-- what each item gives behind those before it, one after the other
abbrev pub written : {X Y : Type 0} → (List X → X → List Y) → List X → List Y
written each [] = []
written each (x ∷ xs) = each [] x ++ written (λ before. each (x ∷ before)) xs
