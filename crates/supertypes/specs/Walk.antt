-- Walks along supertypes, with repeats.
use Rattle.std.specs.Prelude.{◌≡◌, ◌≤◌, ◌<◌, ℕ, zero, suc, List, [], ◌∷◌, length, nat_lt}
use Rattle.std.specs.Prelude.{if◌then◌else◌}
use Rattle.std.specs.List.{flat_map}
use Rattle.reachability.specs.Reached.{targets}
use Rattle.supertypes.specs.Ways.{Reaches}

-- up to a depth: the class, and the walks of its supertypes in their order; nothing where no
-- class is
abbrev pub walk_at : List (List ℕ) → ℕ → ℕ → List ℕ
walk_at graph zero class = []
walk_at graph (suc depth) class =
    if nat_lt class (length graph)
    then class ∷ flat_map (walk_at graph depth) (targets graph class)
    else []

-- the depth is the number of classes, since a longer chain of classes has one twice
abbrev pub walk : List (List ℕ) → ℕ → List ℕ
walk graph class = walk_at graph (length graph) class

-- walks by any function: that of each class which this one reaches is the class, and the walks
-- of its
-- supertypes in their order
pub record IsWalk (graph : List (List ℕ)) (start : ℕ) (walk : ℕ → List ℕ) : Type 0 where
  pub steps : (class : ℕ) → Reaches graph start class → class < length graph →
      walk class ≡ class ∷ flat_map walk (targets graph class)
  pub beyond : (class : ℕ) → length graph ≤ class → walk class ≡ []
