-- What holds throughout the search for rings. The classes on the way lie in runs: the classes
-- of a run
-- reach each other, and each run leads into the next.
use Rattle.std.specs.Prelude.{◌≡◌, ◌≢◌, ◌≤◌, ◌<◌, ◌+◌, ◌-◌, ◌*◌, ◌⊎◌, ◌++◌, ℕ, min}
use Rattle.std.specs.Prelude.{take, drop, slice_set, List, [], ◌∷◌, Option, Some, None, length}
use Rattle.std.specs.Prelude.{Contains, slice_index_or}
use Rattle.reachability.specs.Reached.{targets}
use Rattle.supertypes.specs.Ways.{Reaches, ReachesItself}
use Rattle.supertypes.specs.Rings.{IsAtMost, IsLeastRing}
use Rattle.supertypes.specs.declared.rings.Standing.{Standing}
use Rattle.supertypes.specs.declared.rings.Standing.TheVariants.{New, Open, Done}
use Rattle.supertypes.specs.declared.rings.Run.{Run}
use Rattle.supertypes.specs.declared.rings.Edge.{Edge}
use Rattle.supertypes.specs.declared.rings.Rings.{Rings}

-- the lesser of two numbers that may not be there
abbrev pub lesser : Option ℕ → Option ℕ → Option ℕ
lesser None b = b
lesser (Some a) None = Some a
lesser (Some a) (Some b) = Some (min a b)

-- ---- what the lists show

pub record Picture : Type 0 where
  -- how many classes are on the way, and which
  pub size : ℕ
  pub on_way : ℕ → ℕ
  -- how many runs there are; where each begins, and the least ring that is known behind it
  pub count : ℕ
  pub start : ℕ → ℕ
  pub ring : ℕ → Option ℕ
  -- of each class
  pub standing : ℕ → Standing
  pub label : ℕ → Option ℕ

abbrev pub no_run : Run
no_run = record { start = 0; ring = None }

abbrev pub no_edge : Edge
no_edge = record { place = 0; next = 0 }

abbrev pub standing_in : List Standing → ℕ → Standing
standing_in standings class = slice_index_or standings class Done

pub record Shows (graph : List (List ℕ)) (rings : Rings) (picture : Picture) : Type 0 where
  pub level : length rings.standings.items ≡ length graph
  pub label_level : length rings.labels.items ≡ length graph
  pub size : length rings.on_way.items ≡ picture.size
  pub on_way : (place : ℕ) → place < picture.size →
      slice_index_or rings.on_way.items place 0 ≡ picture.on_way place
  pub count : length rings.runs.items ≡ picture.count
  pub start : (run : ℕ) → run < picture.count →
      (slice_index_or rings.runs.items run no_run).start ≡ picture.start run
  pub ring : (run : ℕ) → run < picture.count →
      (slice_index_or rings.runs.items run no_run).ring ≡ picture.ring run
  pub standing : (class : ℕ) → standing_in rings.standings.items class ≡ picture.standing class
  pub label : (class : ℕ) → slice_index_or rings.labels.items class None ≡ picture.label class

-- ---- runs and edges

-- a place in a run
pub record IsWithin (picture : Picture) (run place : ℕ) : Type 0 where
  pub from : picture.start run ≤ place
  pub in_size : place < picture.size
  pub to : run + 1 < picture.count → place < picture.start (run + 1)

-- the edge of a number of the class at a place
abbrev pub IsEdge : List (List ℕ) → Picture → ℕ → ℕ → ℕ → Type 0
IsEdge graph picture place edge target =
    let row = targets graph (picture.on_way place) in
    (edge < length row) × (slice_index_or row edge target ≡ target)

-- the rings that a class reaches are no less
abbrev pub Covers : List (List ℕ) → Option ℕ → ℕ → Type 0
Covers graph ring class =
    (other : ℕ) → Reaches graph class other → ReachesItself graph other → IsAtMost ring other

-- a run from this one on knows the rings that a class reaches
abbrev pub IsCovered : List (List ℕ) → Picture → ℕ → ℕ → Type 0
IsCovered graph picture run class =
    (above : ℕ) × (run ≤ above) × (above < picture.count) × Covers graph (picture.ring above) class

-- an edge that is gone over leads to a class that is done, or into the run or one above it
abbrev pub Leads : List (List ℕ) → Picture → ℕ → ℕ → Type 0
Leads graph picture run class =
    ((picture.standing class ≡ Done) × IsCovered graph picture run class)
    ⊎ ((place : ℕ) × (picture.standing class ≡ Open place) × (picture.start run ≤ place))

-- a run that knows its own classes as a ring
abbrev pub OwnsAll : Picture → ℕ → Type 0
OwnsAll picture run =
    (place : ℕ) → IsWithin picture run place → IsAtMost (picture.ring run) (picture.on_way place)

-- a run of one class, of which no edge that is gone over leads to itself
pub record IsLone (graph : List (List ℕ)) (picture : Picture) (gone : ℕ → ℕ → Type 0) (run : ℕ)
    : Type 0 where
  pub one : (place : ℕ) → IsWithin picture run place → place ≡ picture.start run
  pub away : (edge target : ℕ) → gone (picture.start run) edge →
      IsEdge graph picture (picture.start run) edge target →
      target ≢ picture.on_way (picture.start run)

pub record IsGoing (graph : List (List ℕ)) (picture : Picture) (gone : ℕ → ℕ → Type 0) : Type 0
  where
    pub stands : (place : ℕ) → place < picture.size →
        picture.standing (picture.on_way place) ≡ Open place
    pub is_at : (class place : ℕ) → picture.standing class ≡ Open place →
        (place < picture.size) × (picture.on_way place ≡ class)
    pub forward : (lower upper : ℕ) → lower ≤ upper → upper < picture.size →
        Reaches graph (picture.on_way lower) (picture.on_way upper)
    pub back : (run place : ℕ) → run < picture.count → IsWithin picture run place →
        Reaches graph (picture.on_way place) (picture.on_way (picture.start run))
    pub starts : (run : ℕ) → run < picture.count → picture.start run < picture.size
    pub rises : (lower upper : ℕ) → lower < upper → upper < picture.count →
        picture.start lower < picture.start upper
    pub first : 0 < picture.size → (0 < picture.count) × (picture.start 0 ≡ 0)
    pub leads : (run place edge target : ℕ) → run < picture.count → picture.start run ≤ place →
        place < picture.size → gone place edge → IsEdge graph picture place edge target →
        Leads graph picture run target
    pub reached : (run number : ℕ) → run < picture.count → picture.ring run ≡ Some number →
        Reaches graph (picture.on_way (picture.start run)) number
    pub itself : (run number : ℕ) → run < picture.count → picture.ring run ≡ Some number →
        ReachesItself graph number
    pub own : (run : ℕ) → run < picture.count →
        OwnsAll picture run ⊎ IsLone graph picture gone run
    pub closed : (class target : ℕ) → picture.standing class ≡ Done →
        Contains (targets graph class) target → picture.standing target ≡ Done
    pub exact : (class : ℕ) → picture.standing class ≡ Done →
        IsLeastRing graph class (picture.label class)

-- ---- the path

-- no class with this place has the edge before it
abbrev pub IsGone : List Edge → ℕ → ℕ → Type 0
IsGone path place edge = (next : Edge) → Contains path next → next.place ≡ place → edge < next.next

pub record IsUnderWay (graph : List (List ℕ)) (rings : Rings) (path : List Edge) : Type 0 where
  pub picture : Picture
  pub shows : Shows graph rings picture
  pub going : IsGoing graph picture (IsGone path)
  pub below : (next : Edge) → Contains path next → next.place < picture.size
  -- the places on the path rise
  pub climbs : (lower upper : ℕ) → lower < upper → upper < length path →
      (slice_index_or path lower no_edge).place < (slice_index_or path upper no_edge).place

abbrev pub IsOnWay : List (List ℕ) → Rings → Type 0
IsOnWay graph rings = IsUnderWay graph rings rings.path.items

abbrev pub last_start_of : List Run → ℕ
last_start_of runs = (slice_index_or runs (length runs - 1) no_run).start

-- the class of this edge lies in the last run, and is not on the path
pub record IsAlong (graph : List (List ℕ)) (rings : Rings) (edge : Edge) : Type 0 where
  pub under_way : IsUnderWay graph rings (rings.path.items ++ edge ∷ [])
  pub some : 0 < length rings.runs.items
  pub in_last : last_start_of rings.runs.items ≤ edge.place

-- the next edge of the class leads to a target
pub record IsNext (graph : List (List ℕ)) (rings : Rings) (edge : Edge) (target : ℕ) : Type 0 where
  pub few : edge.next < length (targets graph (slice_index_or rings.on_way.items edge.place 0))
  pub is : slice_index_or (targets graph (slice_index_or rings.on_way.items edge.place 0))
      edge.next target ≡ target

abbrev pub gone_over : Edge → Edge
gone_over edge = record { place = edge.place; next = edge.next + 1 }

-- nothing is on the way, and all classes before a number are done
pub record IsSettled (graph : List (List ℕ)) (rings : Rings) (class : ℕ) : Type 0 where
  pub on_way : IsOnWay graph rings
  pub none : rings.runs.items ≡ []
  pub done : (before : ℕ) → before < class → standing_in rings.standings.items before ≡ Done

-- ---- steps

pub record HasEntered (old new : Rings) (class : ℕ) : Type 0 where
  pub on_way : new.on_way.items ≡ old.on_way.items ++ class ∷ []
  pub path : new.path.items ≡ old.path.items
      ++ (record { place = length old.on_way.items; next = 0 }) ∷ []
  pub runs : new.runs.items ≡ old.runs.items
      ++ (record { start = length old.on_way.items; ring = None }) ∷ []
  pub standings : new.standings.items ≡ slice_set old.standings.items class
      (Open (length old.on_way.items))
  pub labels : new.labels.items ≡ old.labels.items

pub record HasRuns (old new : Rings) (list : List Run) : Type 0 where
  pub runs : new.runs.items ≡ list
  pub on_way : new.on_way.items ≡ old.on_way.items
  pub path : new.path.items ≡ old.path.items
  pub standings : new.standings.items ≡ old.standings.items
  pub labels : new.labels.items ≡ old.labels.items

-- the last run knows of one ring more
abbrev pub folded : List Run → Option ℕ → List Run
folded runs ring =
    let last = length runs - 1 in
    let run = slice_index_or runs last no_run in
    slice_set runs last (record { start = run.start; ring = lesser run.ring ring })

abbrev pub first_of : Rings → ℕ
first_of rings = slice_index_or rings.on_way.items (last_start_of rings.runs.items) 0

-- the last two runs as one, which is a ring
abbrev pub joined_runs : Rings → List Run
joined_runs rings =
    let last = length rings.runs.items - 1 in
    let run = slice_index_or rings.runs.items last no_run in
    let prior = slice_index_or rings.runs.items (last - 1) no_run in
    slice_set (take last rings.runs.items) (last - 1) (record {
      start = prior.start;
      ring = lesser (lesser prior.ring run.ring)
          (lesser
          (Some (slice_index_or rings.on_way.items prior.start 0))
          (Some (slice_index_or rings.on_way.items run.start 0)));
    })

pub record HasTaken (old new : Rings) (edge : Edge) : Type 0 where
  pub path : old.path.items ≡ new.path.items ++ edge ∷ []
  pub runs : new.runs.items ≡ old.runs.items
  pub on_way : new.on_way.items ≡ old.on_way.items
  pub standings : new.standings.items ≡ old.standings.items
  pub labels : new.labels.items ≡ old.labels.items
  pub in_last : last_start_of old.runs.items ≤ edge.place

-- no class on the path lies in the last run
abbrev pub HasNoEdge : Rings → Type 0
HasNoEdge rings =
    (length rings.path.items ≡ 0)
    ⊎ ((slice_index_or rings.path.items (length rings.path.items - 1)
    no_edge).place < last_start_of rings.runs.items)

-- how many classes are new
abbrev pub fresh : List Standing → ℕ
fresh [] = 0
fresh (New ∷ standings) = 1 + fresh standings
fresh (Open place ∷ standings) = fresh standings
fresh (Done ∷ standings) = fresh standings

-- what is left to do
abbrev pub work : Rings → ℕ
work rings = 3 * fresh rings.standings.items + (length rings.path.items + length rings.runs.items)

-- these classes are done, with this ring
pub record AreSettled (old new : List Standing) (labels_old labels_new : List (Option ℕ))
    (classes : List ℕ) (ring : Option ℕ) : Type 0 where
  pub level : length new ≡ length old
  pub label_level : length labels_new ≡ length labels_old
  pub done : (class : ℕ) → Contains classes class → standing_in new class ≡ Done
  pub label : (class : ℕ) → Contains classes class → slice_index_or labels_new class None ≡ ring
  pub stays : (class : ℕ) → (Contains classes class → ⊥) →
      standing_in new class ≡ standing_in old class
  pub label_stays : (class : ℕ) → (Contains classes class → ⊥) →
      slice_index_or labels_new class None ≡ slice_index_or labels_old class None
  pub was_new : (class : ℕ) → standing_in new class ≡ New → standing_in old class ≡ New
  pub news : fresh new ≤ fresh old

pub record HasLeft (old new : Rings) (front : List Run) (run : Run) : Type 0 where
  pub before : old.runs.items ≡ front ++ run ∷ []
  pub runs : new.runs.items ≡ folded front run.ring
  pub on_way : new.on_way.items ≡ take run.start old.on_way.items
  pub path : new.path.items ≡ old.path.items
  pub settled : AreSettled old.standings.items new.standings.items old.labels.items
      new.labels.items (drop run.start old.on_way.items) run.ring

-- a class that is new was new before
abbrev pub WereNew : Rings → Rings → Type 0
WereNew old new = (class : ℕ) → standing_in new.standings.items class ≡ New →
    standing_in old.standings.items class ≡ New
