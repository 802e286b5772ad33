use Rattle.std.proofs.Common.{◌≡◌, ℕ, List, ◌++◌, take}
use Rattle.std.specs.List.{filter_map}
use Rattle.std.specs.BTreeMap.{get}
use Rattle.std.specs.Cmp.Lexicographic.{slice_cmp}
use Rattle.std.specs.Ordering.{nat_cmp}
use Rattle.class_views.specs.World.{World}
use Rattle.client_view.specs.Numbers.{number_of}
use Rattle.client_view.proofs.numbers.push_superinterfaces.Given as goal

abbrev pub invariant-loop-name : goal.invariant-loop-name
invariant-loop-name l =
    (world : World) →
    ((name : List ℕ) → get (slice_cmp nat_cmp) l.fn.numbers name ≡ number_of world name) →
    l.row.items
    ≡ l.initial.row.items ++ filter_map (number_of world) (take l.name-index l.name-items)
