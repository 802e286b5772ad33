use Rattle.std.proofs.Common.{◌≡◌, map, take}
use Rattle.used_files.specs.Parts.{now_of}
use Rattle.file_contents.specs.Contents.{item_name}
use Rattle.file_contents.proofs.twice.name_keys.Given as goal

abbrev pub invariant-loop-item : goal.invariant-loop-item
invariant-loop-item l = map now_of l.keys.items ≡ map item_name (take l.item-index l.items)
