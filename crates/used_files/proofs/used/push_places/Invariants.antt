use Rattle.std.proofs.Common.{◌≡◌, ◌++◌, map}
use Rattle.std.specs.Vec.Iter.{into_iter_items}
use Rattle.used_files.specs.Paths.{place_at}
use Rattle.used_files.proofs.used.push_places.Given as goal

abbrev pub invariant-loop-path : goal.invariant-loop-path
invariant-loop-path l =
    l.all.items ++ map (place_at l.root) (into_iter_items l.path-iterator)
    ≡ l.fn.all.items ++ map (place_at l.root) (into_iter_items l.initial.path-iterator)
