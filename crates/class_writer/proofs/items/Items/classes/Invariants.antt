use Rattle.std.proofs.Common.{◌∷◌, [], length, take}
use Rattle.std.specs.List.{flat_map}
use Rattle.class_desc.specs.Layout.{Count, class_item}
use Rattle.class_writer.specs.Writing.{Puts}
use Rattle.class_writer.proofs.items.Items.classes.Given as goal

abbrev pub invariant-loop-name : goal.invariant-loop-name
invariant-loop-name l =
    Puts (Count (length l.names) ∷ flat_map (λ name. class_item name ∷ [])
    (take l.name-index l.names)) l.fn.self l.self
