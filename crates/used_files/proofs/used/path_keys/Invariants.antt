use Rattle.std.proofs.Common.{◌≡◌, map, take}
use Rattle.used_files.specs.Parts.{now_of}
use Rattle.used_files.proofs.used.path_keys.Given as goal

abbrev pub invariant-loop-place : goal.invariant-loop-place
invariant-loop-place l =
    map now_of l.keys.items ≡ map (λ place. place.path) (take l.place-index l.all)
