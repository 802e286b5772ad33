use Rattle.std.proofs.Common.{◌≡◌, ◌≤◌, length, map, take, drop}
use Rattle.std.specs.List.{flat_map, enumerate_from}
use Rattle.std.specs.Vec.Iter.{into_iter_items}
use Rattle.used_files.specs.Paths.{first_use}
use Rattle.used_files.proofs.used.first_uses.Given as goal

abbrev pub invariant-loop-place : goal.invariant-loop-place
invariant-loop-place l =
    let all = into_iter_items l.initial.place-iterator in
    record {
      within : l.index ≤ length all;
      rest : into_iter_items l.place-iterator ≡ drop l.index all;
      uses : l.uses.items
          ≡ flat_map (first_use (map (λ place. place.path) all))
          (enumerate_from 0 (take l.index all));
    }
