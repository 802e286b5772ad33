-- The body of an attribute, apart from its name.
use Rattle.std.specs.Prelude.{List}
use Rattle.class_desc.specs.declared.attribute.Attr.{Attr, out-Attr}
use Rattle.class_desc.specs.Layout.{Item, layer_body, component_items}

unfoldable pub body_items : Attr → List Item
body_items attr = layer_body component_items (out-Attr attr)
