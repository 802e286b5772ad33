-- What a search is seen as.
use Rattle.std.specs.Prelude.{ℕ, List}

pub record Found : Type 0 where
  -- for how many classes there is room
  pub classes : ℕ
  -- what was gathered
  pub list : List ℕ
