use Rattle.std.proofs.Common.{◌≡◌, ◌++◌}
use Rattle.std.specs.Vec.Iter.{into_iter_items}
use Rattle.file_contents.specs.Contents.{classes}
use Rattle.commands.proofs.ask.classes_among.Given as goal

abbrev pub invariant-loop-item : goal.invariant-loop-item
invariant-loop-item l =
    l.list.items ++ classes (into_iter_items l.item-iterator)
    ≡ classes (into_iter_items l.initial.item-iterator)
