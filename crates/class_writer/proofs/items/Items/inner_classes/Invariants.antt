use Rattle.std.proofs.Common.{◌∷◌, length, take}
use Rattle.std.specs.List.{flat_map}
use Rattle.class_desc.specs.Layout.{Count, inner_class_items}
use Rattle.class_writer.specs.Writing.{Puts}
use Rattle.class_writer.proofs.items.Items.inner_classes.Given as goal

abbrev pub invariant-loop-entry : goal.invariant-loop-entry
invariant-loop-entry l =
    Puts (Count (length l.entries) ∷ flat_map inner_class_items (take l.entry-index l.entries))
    l.fn.self l.self
