use Rattle.std.proofs.Common.{◌≡◌, map, take}
use Rattle.std.specs.List.{flat_map, enumerate_from}
use Rattle.file_contents.specs.Contents.{item_name}
use Rattle.file_contents.specs.Phases.{twice_at}
use Rattle.file_contents.proofs.twice.declared_twice.Given as goal

abbrev pub invariant-loop-index : goal.invariant-loop-index
invariant-loop-index l =
    l.list.items
    ≡ flat_map (twice_at (map item_name l.items)) (enumerate_from 0 (take l.index l.items))
