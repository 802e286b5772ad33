-- Ways along supertypes. A graph is a list for each class: the classes that it leads to.
use Rattle.std.specs.Prelude.{◌≡◌, ℕ, zero, suc, List, Contains}
use Rattle.reachability.specs.Reached.{targets}

-- a way of so many steps
abbrev pub HasWay : List (List ℕ) → ℕ → ℕ → ℕ → Type 0
HasWay graph zero from to = from ≡ to
HasWay graph (suc steps) from to =
    (next : ℕ) × Contains (targets graph from) next × HasWay graph steps next to

-- a way of any length, none included
abbrev pub Reaches : List (List ℕ) → ℕ → ℕ → Type 0
Reaches graph from to = (steps : ℕ) × HasWay graph steps from to

-- a way of one step or more: the upper one is a supertype, or a supertype of one, and so on
abbrev pub IsBelow : List (List ℕ) → ℕ → ℕ → Type 0
IsBelow graph lower upper =
    (next : ℕ) × Contains (targets graph lower) next × Reaches graph next upper

-- the class lies on a ring
abbrev pub ReachesItself : List (List ℕ) → ℕ → Type 0
ReachesItself graph class = IsBelow graph class class

-- the class lies above some of these
abbrev pub IsAboveSome : List (List ℕ) → List ℕ → ℕ → Type 0
IsAboveSome graph classes class =
    (lower : ℕ) × Contains classes lower × IsBelow graph lower class

-- no class that is reached lies on a ring
abbrev pub HasNoRing : List (List ℕ) → ℕ → Type 0
HasNoRing graph start = (class : ℕ) → Reaches graph start class → ReachesItself graph class → ⊥
