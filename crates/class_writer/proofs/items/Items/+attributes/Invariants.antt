use Rattle.std.proofs.Common.{◌∷◌, length, take}
use Rattle.std.specs.List.{flat_map}
use Rattle.class_desc.specs.Layout.{Count, attribute_items, component_items}
use Rattle.class_writer.specs.Writing.{Puts}
use Rattle.class_writer.proofs.items.Items.+attributes.Given as goal

abbrev pub invariant-components-loop-component : goal.invariant-components-loop-component
invariant-components-loop-component l =
    Puts (Count (length l.components)
    ∷ flat_map component_items (take l.component-index l.components)) l.fn.self l.self

abbrev pub invariant-attributes-loop-attr : goal.invariant-attributes-loop-attr
invariant-attributes-loop-attr l =
    Puts (Count (length l.attrs) ∷ flat_map attribute_items (take l.attr-index l.attrs)) l.fn.self
    l.self
