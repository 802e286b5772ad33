use Rattle.std.proofs.Common.{◌∷◌, length, take}
use Rattle.std.specs.List.{flat_map}
use Rattle.class_desc.specs.Layout.{Count, field_items}
use Rattle.class_writer.specs.Writing.{Puts}
use Rattle.class_writer.proofs.items.Items.fields.Given as goal

abbrev pub invariant-loop-field : goal.invariant-loop-field
invariant-loop-field l =
    Puts (Count (length l.fields) ∷ flat_map field_items (take l.field-index l.fields)) l.fn.self
    l.self
