use Rattle.std.proofs.Common.{◌≡◌, ℕ, List, map, take}
use Rattle.std.specs.BTreeMap.{get}
use Rattle.std.specs.Cmp.Lexicographic.{slice_cmp}
use Rattle.std.specs.Ordering.{nat_cmp}
use Rattle.class_views.specs.View.{view_of_desc}
use Rattle.class_views.specs.World.{World}
use Rattle.client_view.specs.Indexed.{superclasses}
use Rattle.client_view.specs.Numbers.{number_of, row_of}
use Rattle.client_view.proofs.numbers.superclass_rows.Given as goal

abbrev pub invariant-loop-class : goal.invariant-loop-class
invariant-loop-class l =
    (world : World) →
    ((name : List ℕ) → get (slice_cmp nat_cmp) l.fn.numbers name ≡ number_of world name) →
    l.rows ≡ map (λ c. row_of world superclasses (view_of_desc c)) (take l.class-index l.classes)
