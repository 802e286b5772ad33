use Rattle.std.proofs.Common.{◌∷◌, length, take}
use Rattle.std.specs.List.{flat_map}
use Rattle.class_desc.specs.Layout.{Count, method_items}
use Rattle.class_writer.specs.Writing.{Puts}
use Rattle.class_writer.proofs.items.Items.methods.Given as goal

abbrev pub invariant-loop-method : goal.invariant-loop-method
invariant-loop-method l =
    Puts (Count (length l.methods) ∷ flat_map method_items (take l.method-index l.methods))
    l.fn.self l.self
