-- What the layout says of attributes, apart by their names and bodies.
use Rattle.std.proofs.Common.{◌≡◌, ℕ, List, [], ◌∷◌, sym, ap, ◌∙◌}
use Rattle.class_desc.specs.declared.attribute.Attr.{Attr, roll-Attr, out-Attr, out-roll-Attr}
use Rattle.class_desc.specs.declared.attribute.Attr.{roll-out-Attr, fold-roll-Attr}
use Rattle.class_desc.specs.declared.attribute.ComponentDesc.{ComponentDesc, out-ComponentDesc}
use Rattle.class_desc.specs.declared.attribute.ComponentDesc.{fold_out-ComponentDesc}
use Rattle.class_desc.specs.declared.attribute.Attr.TheOpen.{Attr-F}
use Rattle.class_desc.specs.Layout.{Item, attribute, attribute_layer, component_layer}
use Rattle.class_desc.specs.Layout.{attribute_items, component_items, text_item, counted}
use Rattle.class_desc.specs.Places.{layer_name, attribute_name}
use Rattle.class_desc.specs.Layout.{layer_body}
use Rattle.class_writer.specs.Bodies.{body_items}
use Rattle.class_writer.specs.Writing.{Outline, Puts, BeginsAttribute, EndsAttribute}
use Rattle.class_writer.specs.declared.body.Body.{Body}
use Rattle.class_writer.proofs.Putting.{counted_map, puts_as, puts_then, puts_attribute}

rolled_apart : (layer : Attr-F Attr ComponentDesc)
    → attribute_items (roll-Attr layer)
    ≡ attribute (layer_name layer) (layer_body component_items layer)
unfolding attribute_items component_items
rolled_apart (Attr-F.Components components) =
    fold-roll-Attr (List Item) (List Item) attribute_layer component_layer
    (Attr-F.Components components)
    ∙ ap (attribute (layer_name {A = Attr} (Attr-F.Components components)))
    (counted_map component_items components)
rolled_apart layer = fold-roll-Attr (List Item) (List Item) attribute_layer component_layer layer

pub attribute_apart : (attr : Attr)
    → attribute_items attr ≡ attribute (attribute_name attr) (body_items attr)
unfolding attribute_name body_items
attribute_apart attr = ap attribute_items (sym (roll-out-Attr attr)) ∙ rolled_apart (out-Attr attr)

-- the body of an attribute of this kind
pub body_is : (attr : Attr) (layer : Attr-F Attr ComponentDesc) {a b : Outline}
    → attr ≡ roll-Attr layer → Puts (layer_body component_items layer) a b
    → Puts (body_items attr) a b
unfolding body_items
body_is attr layer is put = puts_as
    (sym (ap (λ attr. layer_body component_items (out-Attr attr)) is
    ∙ ap (layer_body component_items) (out-roll-Attr layer))) put

pub attribute_put : (attr : Attr) (name : List ℕ) (mark : Body) (a b c d : Outline)
    → name ≡ attribute_name attr → BeginsAttribute name mark a b
    → Puts (body_items attr) b c → EndsAttribute mark c d → Puts (attribute_items attr) a d
attribute_put attr name mark a b c d named begun put ended =
    puts_as (sym (attribute_apart attr))
    (puts_attribute (attribute_name attr) (body_items attr) mark a b c d
    (rw named at begun) put ended)

pub component_parts : (c : ComponentDesc) → component_items c
    ≡ text_item (out-ComponentDesc c).name ∷ text_item (out-ComponentDesc c).descriptor
    ∷ counted attribute_items (out-ComponentDesc c).attrs
unfolding component_items attribute_items
component_parts c =
    fold_out-ComponentDesc (List Item) (List Item) attribute_layer component_layer c
    ∙ ap (λ t. text_item (out-ComponentDesc c).name ∷ text_item (out-ComponentDesc c).descriptor
    ∷ t) (counted_map attribute_items (out-ComponentDesc c).attrs)

pub component_put : (component : ComponentDesc) (attrs : List Attr) {a b c d : Outline}
    → attrs ≡ (out-ComponentDesc component).attrs
    → Puts (text_item (out-ComponentDesc component).name ∷ []) a b
    → Puts (text_item (out-ComponentDesc component).descriptor ∷ []) b c
    → Puts (counted attribute_items attrs) c d → Puts (component_items component) a d
component_put component attrs same one two three =
    puts_as (sym (component_parts component))
    (puts_then one (puts_then two (puts_as (ap (counted attribute_items) same) three)))
