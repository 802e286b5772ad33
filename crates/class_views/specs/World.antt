-- Worlds of classes, and the way along supertypes.
use Rattle.std.specs.Prelude.{◌≡◌, ℕ, ◌&&◌, Bool, false, not, List, [], ◌∷◌, ◌++◌, length, filter}
use Rattle.std.specs.Prelude.{find, Option, None, option_to_list, unwrap_or}
use Rattle.std.specs.Option.{option_map_or}
use Rattle.std.specs.List.{list_any, flat_map}
use Rattle.java_names.specs.Names.{is_text}
use Rattle.class_desc.specs.Layout.{firsts}
use Rattle.class_views.specs.Flags.{is_interface_flags}
use Rattle.class_views.specs.View.{View}
use Rattle.class_views.specs.Supertypes.{Hierarchy, StepOf, fold_at}

-- the classes that are there; of two of one name the first counts
abbrev pub World : Type 0
World = List View

abbrev pub is_named : List ℕ → View → Bool
is_named name c = is_text c.name name

abbrev pub same_class : View → View → Bool
same_class a b = is_text a.name b.name

abbrev pub class_of : World → List ℕ → Option View
class_of world name = find (is_named name) world

-- by ACC_INTERFACE (JVMS table 4.1-B), whichever list names the class
abbrev pub is_interface : View → Bool
is_interface c = is_interface_flags c.flags

-- ---- the fold along supertypes

abbrev pub hierarchy : World → Hierarchy (List ℕ) View
hierarchy world = record {
  look = class_of world;
  superclass = λ c. c.super_name;
  superinterfaces = λ c. c.interfaces;
}

abbrev pub Step : Type 0 → Type 0
Step Made = StepOf View Made

-- up to a depth; none where no class is there
abbrev pub made_at : {Made : Type 0} → Step Made → World → ℕ → List ℕ → Option Made
made_at step world depth name = fold_at (hierarchy world) step depth name

-- the depth is the number of classes, since a longer chain of classes has one twice
abbrev pub made : {Made : Type 0} → Step Made → World → List ℕ → Option Made
made step world name = made_at step world (length world) name

-- ---- walks and chains

abbrev pub joined : List (List View) → List View
joined walks = flat_map (λ walk. walk) walks

-- the class, the walks of its superinterfaces, the walk of its superclass (JVMS 5.4.3.2)
abbrev pub walk_step : Step (List View)
walk_step c super interfaces = c ∷ (joined interfaces ++ unwrap_or super [])

abbrev pub walk_at : World → ℕ → List ℕ → List View
walk_at world depth name = unwrap_or (made_at walk_step world depth name) []

-- with repeats; empty where no class has the name
abbrev pub walk : World → List ℕ → List View
walk world name = walk_at world (length world) name

-- a walk from those of the supertypes
abbrev pub walk_over : World → View → List View
walk_over world c =
    c ∷ (flat_map (walk world) c.interfaces ++ flat_map (walk world) (option_to_list c.super_name))

-- the class and its superclasses (JVMS 5.4.3.3)
abbrev pub chain_step : Step (List View)
chain_step c super interfaces = c ∷ unwrap_or super []

abbrev pub chain_at : World → ℕ → List ℕ → List View
chain_at world depth name = unwrap_or (made_at chain_step world depth name) []

abbrev pub chain : World → List ℕ → List View
chain world name = chain_at world (length world) name

abbrev pub is_among : List ℕ → List View → Bool
is_among name classes = list_any (is_named name) classes

-- the class of a name reaches the one of another name by supertypes, or is it
abbrev pub leads_to : World → List ℕ → List ℕ → Bool
leads_to world from to = is_among to (walk world from)

-- the names of the supertypes, in the order of the walk
abbrev pub supertypes : View → List (List ℕ)
supertypes c = c.interfaces ++ option_to_list c.super_name

-- a supertype of the class of this name leads back to it
abbrev pub reaches_itself : World → List ℕ → Bool
reaches_itself world name =
    option_map_or
    (λ c. list_any (λ above. leads_to world above name) (supertypes c))
    (class_of world name)
    false

-- the first class of the world that the class of a name reaches, or is, and that reaches itself
abbrev pub ring_of : World → List ℕ → Option View
ring_of world name =
    find (λ c. leads_to world name c.name && reaches_itself world c.name) world

abbrev pub HasNoRing : World → List ℕ → Type 0
HasNoRing world name = ring_of world name ≡ None

-- another class than the upper one, which reaches it
abbrev pub is_below : World → List ℕ → List ℕ → Bool
is_below world lower upper = not (is_text lower upper) && leads_to world lower upper

-- each class of a walk once, where it stands first
abbrev pub each_once : List View → List View
each_once classes = firsts same_class classes

-- the interfaces, other than the class itself, that it reaches by supertypes, each once
abbrev pub supers_of : World → List ℕ → List View
supers_of world name =
    filter (λ c. is_interface c && not (is_named name c)) (each_once (walk world name))
