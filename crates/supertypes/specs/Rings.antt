-- Rings: classes that lie above themselves, which no class file ought to make (JVMS 5.3.5).
use Rattle.std.specs.Prelude.{◌≡◌, ◌≤◌, ℕ, List, Option, Some}
use Rattle.supertypes.specs.Ways.{Reaches, ReachesItself}

-- there is a number, and it is no greater than this one
abbrev pub IsAtMost : Option ℕ → ℕ → Type 0
IsAtMost least bound = (number : ℕ) × (least ≡ Some number) × (number ≤ bound)

-- the least class that this one reaches, or is, and that reaches itself; none where there is none
pub record IsLeastRing (graph : List (List ℕ)) (class : ℕ) (ring : Option ℕ) : Type 0 where
  pub reached : (number : ℕ) → ring ≡ Some number → Reaches graph class number
  pub itself : (number : ℕ) → ring ≡ Some number → ReachesItself graph number
  pub least : (other : ℕ) → Reaches graph class other → ReachesItself graph other →
      IsAtMost ring other
