-- The worlds before and after stripping: classes that are read, of which only the kept ones are
-- written, beside other classes.
use Rattle.std.specs.Prelude.{ℕ, Bool, not, List, ◌++◌, map, filter}
use Rattle.std.specs.List.{list_any}
use Rattle.class_desc.specs.declared.class.ClassDesc.{ClassDesc}
use Rattle.class_views.specs.Kept.{is_kept}
use Rattle.class_views.specs.Strip.{is_listed}
use Rattle.class_views.specs.View.{View, view_of_desc}
use Rattle.class_views.specs.World.{World, supertypes}

abbrev pub class_names : List ClassDesc → List (List ℕ)
class_names list = map (λ d. d.name) list

-- of the classes that aren't kept
abbrev pub removed_names : List ClassDesc → List (List ℕ)
removed_names list = class_names (filter (λ d. not (is_kept list d)) list)

-- a class that is written hides others of its name
abbrev pub world_of : List ClassDesc → World → World
world_of list others = map view_of_desc list ++ others

-- a class that names one as a supertype that is removed
abbrev pub names_removed : List ClassDesc → View → Bool
names_removed list c = list_any (is_listed (removed_names list)) (supertypes c)
