-- What the layout says of each kind of value and of attribute.
use Rattle.std.proofs.Common.{◌≡◌, ℕ, List, [], ◌∷◌, sym, ap, ◌∙◌}
use Rattle.class_desc.specs.declared.annotation.AnnDesc.{AnnDesc, out-AnnDesc, fold_out-AnnDesc}
use Rattle.class_desc.specs.declared.annotation.ElemPair.{ElemPair, out-ElemPair}
use Rattle.class_desc.specs.declared.annotation.ElemPair.{fold_out-ElemPair}
use Rattle.class_desc.specs.declared.annotation.ElemValue.{ElemValue, roll-ElemValue}
use Rattle.class_desc.specs.declared.annotation.ElemValue.{out-ElemValue, roll-out-ElemValue}
use Rattle.class_desc.specs.declared.annotation.ElemValue.{fold-roll-ElemValue}
use Rattle.class_desc.specs.declared.annotation.ElemValue.TheOpen.{ElemValue-F}
use Rattle.class_desc.specs.declared.annotation.ElemValue.TheVariants as value
use Rattle.class_desc.specs.declared.element_tag.TheConstants.{ENUMERATED, CLASS, ANNOTATION, LIST}
use Rattle.class_desc.specs.declared.value.Value.{Value}
use Rattle.class_desc.specs.Layout.{Item, Tag, EntryNumber, TextNeed, constant_need, text_item}
use Rattle.class_desc.specs.Layout.{counted, value_layer, annotation_layer, element_layer}
use Rattle.class_desc.specs.Layout.{value_items, annotation_items, element_items}
use Rattle.class_writer.proofs.Putting.{counted_map}

abbrev pub Layer : Type 0
Layer = ElemValue-F ElemValue AnnDesc ElemPair

-- the items of a value of this layer
abbrev pub layer_items : Layer → List Item
layer_items (ElemValue-F.Const tag constant) =
    Tag tag ∷ EntryNumber (constant_need TextNeed constant) ∷ []
layer_items (ElemValue-F.Enumerated descriptor name) =
    Tag ENUMERATED ∷ text_item descriptor ∷ text_item name ∷ []
layer_items (ElemValue-F.ClassOf descriptor) = Tag CLASS ∷ text_item descriptor ∷ []
layer_items (ElemValue-F.Nested annotation) = Tag ANNOTATION ∷ annotation_items annotation
layer_items (ElemValue-F.List values) = Tag LIST ∷ counted value_items values

rolled_items : (layer : Layer) → value_items (roll-ElemValue layer) ≡ layer_items layer
unfolding value_items annotation_items
rolled_items (ElemValue-F.List values) =
    fold-roll-ElemValue (List Item) (List Item)
    (List Item) value_layer annotation_layer element_layer (ElemValue-F.List values)
    ∙ ap (λ t. Tag LIST ∷ t) (counted_map value_items values)
rolled_items layer = fold-roll-ElemValue (List Item) (List Item)
    (List Item) value_layer annotation_layer element_layer layer

pub value_parts : (value : ElemValue) → value_items value ≡ layer_items (out-ElemValue value)
value_parts value = ap value_items (sym (roll-out-ElemValue value))
    ∙ rolled_items (out-ElemValue value)

pub constant_items : (tag : ℕ) (constant : Value)
    → value_items (value.Const tag constant) ≡ layer_items (ElemValue-F.Const tag constant)
constant_items tag constant =
    ap value_items (sym (value.rolls-Const tag constant))
    ∙ rolled_items (ElemValue-F.Const tag constant)

pub enumerated_items : (descriptor name : List ℕ)
    → value_items (value.Enumerated descriptor name)
    ≡ layer_items (ElemValue-F.Enumerated descriptor name)
enumerated_items descriptor name =
    ap value_items (sym (value.rolls-Enumerated descriptor name))
    ∙ rolled_items (ElemValue-F.Enumerated descriptor name)

pub class_of_items : (descriptor : List ℕ)
    → value_items (value.ClassOf descriptor) ≡ layer_items (ElemValue-F.ClassOf descriptor)
class_of_items descriptor =
    ap value_items (sym (value.rolls-ClassOf descriptor))
    ∙ rolled_items (ElemValue-F.ClassOf descriptor)

pub nested_items : (annotation : AnnDesc)
    → value_items (value.Nested annotation) ≡ layer_items (ElemValue-F.Nested annotation)
nested_items annotation =
    ap value_items (sym (value.rolls-Nested annotation))
    ∙ rolled_items (ElemValue-F.Nested annotation)

pub list_items : (values : List ElemValue)
    → value_items (value.List values) ≡ layer_items (ElemValue-F.List values)
list_items values =
    ap value_items (sym (value.rolls-List values))
    ∙ rolled_items (ElemValue-F.List values)

pub annotation_parts : (a : AnnDesc)
    → annotation_items a ≡ text_item (out-AnnDesc a).descriptor
    ∷ counted element_items (out-AnnDesc a).elements
unfolding annotation_items element_items
annotation_parts a =
    fold_out-AnnDesc (List Item) (List Item)
    (List Item) value_layer annotation_layer element_layer a
    ∙ ap (λ t. text_item (out-AnnDesc a).descriptor ∷ t)
    (counted_map element_items (out-AnnDesc a).elements)

pub element_parts : (e : ElemPair)
    → element_items e ≡ text_item (out-ElemPair e).name ∷ value_items (out-ElemPair e).value
unfolding element_items value_items
element_parts e = fold_out-ElemPair (List Item) (List Item)
    (List Item) value_layer annotation_layer element_layer e
