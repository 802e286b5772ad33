-- What a search has found so far.
use Rattle.std.specs.Prelude.{◌≡◌, ◌<◌, ◌≤◌, ◌+◌, ℕ, true, false, List, [], ◌++◌, length}
use Rattle.std.specs.Prelude.{Contains, slice_index_or}
use Rattle.std.specs.Vec.{vec_capacity}
use Rattle.reachability.specs.Search.{unmarked}
use Rattle.supertypes.specs.declared.state.State.{State}

-- the class is marked
abbrev pub IsMarked : State → ℕ → Type 0
IsMarked state class = slice_index_or state.marks.items class false ≡ true

-- what is marked is what was found, each once, and there is room for the rest
pub record IsSteady (state : State) : Type 0 where
  pub marked : (class : ℕ) → IsMarked state class → Contains state.found.items class
  pub listed : (class : ℕ) → Contains state.found.items class → IsMarked state class
  pub counted : unmarked state.marks.items + length state.found.items ≡ length state.marks.items
  pub found_room : length state.marks.items ≤ vec_capacity state.found
  pub path_room : length state.marks.items ≤ vec_capacity state.path

-- between two searches
pub record IsRested (state : State) : Type 0 where
  pub steady : IsSteady state
  pub path : state.path.items ≡ []

-- nothing was found
pub record IsClean (state : State) : Type 0 where
  pub rested : IsRested state
  pub found : state.found.items ≡ []

-- these classes were found too, where they are the graph's, and none besides
pub record Grew (old new : State) (classes : List ℕ) : Type 0 where
  pub more : List ℕ
  pub found : new.found.items ≡ old.found.items ++ more
  pub level : length new.marks.items ≡ length old.marks.items
  pub path : new.path.items ≡ old.path.items
  pub sound : (class : ℕ) → Contains more class → Contains classes class
  pub each : (class : ℕ) → Contains classes class → class < length old.marks.items →
      Contains new.found.items class
