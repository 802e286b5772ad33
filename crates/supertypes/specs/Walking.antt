-- What holds throughout a walk in which each class is entered once.
use Rattle.std.specs.Prelude.{◌≡◌, ◌<◌, ◌≤◌, ◌⊎◌, ◌++◌, ℕ, Bool, true, false, List, [], ◌∷◌}
use Rattle.std.specs.Prelude.{Option, Some, None, length, drop, Contains, slice_index_or}
use Rattle.std.specs.List.{find, flat_map}
use Rattle.reachability.specs.Reached.{targets}
use Rattle.supertypes.specs.Ways.{Reaches}
use Rattle.supertypes.specs.declared.state.State.{State}
use Rattle.supertypes.specs.declared.state.Step.{Step}

-- the class is marked, or none is there
abbrev pub IsOld : List Bool → ℕ → Type 0
IsOld marks class = slice_index_or marks class true ≡ true

-- these classes are old, from a place up to another one
abbrev pub AreOld : List Bool → List ℕ → ℕ → ℕ → Type 0
AreOld marks classes from to =
    (place : ℕ) → from ≤ place → place < to → IsOld marks (slice_index_or classes place 0)

-- the first new class of these, from a place on
pub record IsNextNew (marks : List Bool) (classes : List ℕ) (from at : ℕ) : Type 0 where
  pub behind : from ≤ at
  pub few : at < length classes
  pub fresh : slice_index_or marks (slice_index_or classes at 0) true ≡ false
  pub old : AreOld marks classes from at

abbrev pub no_step : Step
no_step = record { class = 0; next = 0 }

-- the walks that are left, those of the last class on the path first
abbrev pub ahead : List (List ℕ) → (ℕ → List ℕ) → List Step → List ℕ
ahead graph walk [] = []
ahead graph walk (step ∷ path) =
    ahead graph walk path ++ flat_map walk (drop step.next (targets graph step.class))

-- what is on the path, and what was found; a class that is to be entered next counts as old
pub record IsPath (graph : List (List ℕ)) (start : ℕ) (walk : ℕ → List ℕ) (test : ℕ → Bool)
    (marks : List Bool) (path : List Step) (coming : Option ℕ) : Type 0 where
  pub reached : (step : Step) → Contains path step → Reaches graph start step.class
  pub in_graph : (step : Step) → Contains path step → step.class < length graph
  pub fails : (step : Step) → Contains path step → test step.class ≡ false
  pub spent : (step : Step) (place : ℕ) → Contains path step → place < step.next →
      place < length (targets graph step.class) →
      IsOld marks (slice_index_or (targets graph step.class) place 0)
      ⊎ (coming ≡ Some (slice_index_or (targets graph step.class) place 0))
  -- each walk on the path holds the next one
  pub falls : (lower upper : ℕ) → lower < upper → upper < length path →
      length (walk (slice_index_or path upper no_step).class)
      < length (walk (slice_index_or path lower no_step).class)
  -- a marked class that isn't on the path has nothing in its walk that is sought
  pub done : (class : ℕ) → slice_index_or marks class false ≡ true →
      ((step : Step) × Contains path step × (step.class ≡ class)) ⊎ (find test (walk class) ≡ None)

pub record IsWalking (graph : List (List ℕ)) (start : ℕ) (walk : ℕ → List ℕ) (test : ℕ → Bool)
    (state : State) : Type 0 where
  pub path : IsPath graph start walk test state.marks.items state.path.items None
  pub left : find test (walk start) ≡ find test (ahead graph walk state.path.items)

-- the class is the next one of the walk that is new
pub record IsOnward (graph : List (List ℕ)) (start : ℕ) (walk : ℕ → List ℕ) (test : ℕ → Bool)
    (state : State) (class : ℕ) : Type 0 where
  pub path : IsPath graph start walk test state.marks.items state.path.items (Some class)
  pub reached : Reaches graph start class
  pub shorter : (step : Step) → Contains state.path.items step →
      length (walk class) < length (walk step.class)
  pub left : find test (walk start) ≡ find test (walk class ++ ahead graph walk state.path.items)

-- what is sought stands first in the walk of the next class, or nowhere
abbrev pub IsSeeking : List (List ℕ) → ℕ → (ℕ → List ℕ) → (ℕ → Bool) → State → Option ℕ → Type 0
IsSeeking graph start walk test state None = find test (walk start) ≡ None
IsSeeking graph start walk test state (Some class) = IsOnward graph start walk test state class
