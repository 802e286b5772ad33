use Rattle.std.proofs.Common.{◌∷◌, length, take}
use Rattle.std.specs.List.{flat_map}
use Rattle.class_desc.specs.Layout.{Count, value_items, element_items}
use Rattle.class_writer.specs.Writing.{Puts}
use Rattle.class_writer.proofs.items.Items.+values.Given as goal

abbrev pub invariant-values-loop-value : goal.invariant-values-loop-value
invariant-values-loop-value l =
    Puts (Count (length l.values) ∷ flat_map value_items (take l.value-index l.values)) l.fn.self
    l.self

abbrev pub invariant-elements-loop-element : goal.invariant-elements-loop-element
invariant-elements-loop-element l =
    Puts (Count (length l.elements) ∷ flat_map element_items (take l.element-index l.elements))
    l.fn.self l.self
