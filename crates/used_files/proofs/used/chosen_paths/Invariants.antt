use Rattle.std.proofs.Common.{◌≡◌, ◌++◌, map}
use Rattle.std.specs.Prelude.{filter, string_bytes}
use Rattle.std.specs.Vec.Iter.{into_iter_items}
use Rattle.used_files.specs.Paths.{is_used}
use Rattle.used_files.proofs.used.chosen_paths.Given as goal

-- what was taken so far, with what will be taken of the rest
abbrev pub invariant-loop-path : goal.invariant-loop-path
invariant-loop-path l =
    l.paths.items
    ++ filter (is_used l.kinds l.root) (map string_bytes (into_iter_items l.path-iterator))
    ≡ filter (is_used l.kinds l.root) (map string_bytes (into_iter_items l.initial.path-iterator))
