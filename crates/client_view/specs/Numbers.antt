-- Classes by number: their places in the list of a world.
use Rattle.std.specs.Prelude.{◌≡◌, ◌≤◌, ◌<◌, ℕ, suc, List, [], ◌∷◌, map, length, slice_get, Option}
use Rattle.std.specs.Prelude.{Some, None, option_map, Bool, true, false, if◌then◌else◌}
use Rattle.std.specs.List.{filter_map}
use Rattle.reachability.specs.Reached.{targets}
use Rattle.class_desc.specs.declared.class.ClassDesc.{ClassDesc}
use Rattle.class_views.specs.View.{View, view_of_desc}
use Rattle.class_views.specs.World.{World, is_named}

-- the classes as clients see them
abbrev pub views : List ClassDesc → World
views classes = map view_of_desc classes

-- the first class of a name
abbrev pub number_of : World → List ℕ → Option ℕ
number_of [] name = None
number_of (c ∷ world) name =
    if is_named name c then Some 0 else option_map (λ number. suc number) (number_of world name)

-- what is the number of a name, behind a class that has it or not
abbrev pub noted : Option ℕ → Bool → ℕ → Option ℕ
noted (Some first) same number = Some first
noted None true number = Some number
noted None false number = None

-- two classes that have one name
pub record HaveOneName (world : World) (first second : ℕ) : Type 0 where
  pub one : View
  pub other : View
  pub first_is : slice_get world first ≡ Some one
  pub second_is : slice_get world second ≡ Some other
  pub same : one.name ≡ other.name

-- no two classes have one name
abbrev pub AreApart : World → Type 0
AreApart world = (first second : ℕ) → first < second → HaveOneName world first second → ⊥

-- the first two that have one name, by the second of them, then by the first
pub record IsFirstRepeat (world : World) (first second : ℕ) : Type 0 where
  pub before : first < second
  pub have : HaveOneName world first second
  pub second_least : (one other : ℕ) → one < other → HaveOneName world one other → second ≤ other
  pub first_least : (one : ℕ) → one < second → HaveOneName world one second → first ≤ one

-- the classes that are there among those that a class names, in their order
abbrev pub row_of : World → (View → List (List ℕ)) → View → List ℕ
row_of world named c = filter_map (number_of world) (named c)

-- a graph leads from each class to those that it names
pub record IsGraphOf (world : World) (named : View → List (List ℕ)) (graph : List (List ℕ))
    : Type 0 where
  pub level : length graph ≡ length world
  pub rows : (number : ℕ) (c : View) → slice_get world number ≡ Some c →
      targets graph number ≡ row_of world named c
