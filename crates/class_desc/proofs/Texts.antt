-- What the definitions of a description's texts say of each kind of value and of attribute.
use Rattle.std.proofs.Common.{◌≡◌, ℕ, ◌+◌, List, [], ◌∷◌, ◌++◌, length, map, refl, sym, ap, ◌∙◌}
use Rattle.std.proofs.Common.{arith}
use Rattle.class_desc.specs.declared.annotation.AnnDesc.{AnnDesc, out-AnnDesc, roll-AnnDesc}
use Rattle.class_desc.specs.declared.annotation.AnnDesc.{out-roll-AnnDesc, fold_out-AnnDesc}
use Rattle.class_desc.specs.declared.annotation.ElemPair.{ElemPair, out-ElemPair, roll-ElemPair}
use Rattle.class_desc.specs.declared.annotation.ElemPair.{out-roll-ElemPair, fold_out-ElemPair}
use Rattle.class_desc.specs.declared.annotation.ElemValue.{ElemValue, roll-ElemValue}
use Rattle.class_desc.specs.declared.annotation.ElemValue.{out-ElemValue, roll-out-ElemValue}
use Rattle.class_desc.specs.declared.annotation.ElemValue.{fold-roll-ElemValue}
use Rattle.class_desc.specs.declared.annotation.ElemValue.TheOpen.{ElemValue-F, AnnDesc-F}
use Rattle.class_desc.specs.declared.annotation.ElemValue.TheOpen.{ElemPair-F}
use Rattle.class_desc.specs.declared.attribute.Attr.{Attr, roll-Attr, out-Attr}
use Rattle.class_desc.specs.declared.attribute.Attr.{roll-out-Attr, fold-roll-Attr}
use Rattle.class_desc.specs.declared.attribute.ComponentDesc.{ComponentDesc, out-ComponentDesc}
use Rattle.class_desc.specs.declared.attribute.ComponentDesc.{roll-ComponentDesc}
use Rattle.class_desc.specs.declared.attribute.ComponentDesc.{out-roll-ComponentDesc}
use Rattle.class_desc.specs.declared.attribute.ComponentDesc.{fold_out-ComponentDesc}
use Rattle.class_desc.specs.declared.attribute.Attr.TheOpen.{Attr-F, ComponentDesc-F}
use Rattle.class_desc.specs.Texts.{total, layer_texts, value_layer, annotation_layer}
use Rattle.class_desc.specs.Texts.{element_layer, value_texts, annotation_texts, element_texts}
use Rattle.class_desc.specs.Texts.{body_texts, attribute_layer, component_layer}
use Rattle.class_desc.specs.Texts.{attribute_texts, component_texts}

-- ---- lists

pub total_append : {A : Type 0} (weight : A → ℕ) (items others : List A)
    → total weight (items ++ others) ≡ total weight items + total weight others
total_append weight [] others = omega arith
total_append weight (item ∷ items) others = omega (arith, total_append weight items others)

total_map : {A : Type 0} (weight : A → ℕ) (items : List A)
    → total (λ n. n) (map weight items) ≡ total weight items
total_map weight [] = refl
total_map weight (item ∷ items) = ap (λ n. weight item + n) (total_map weight items)

-- ---- values and annotations

pub rolled_value : (layer : ElemValue-F ElemValue AnnDesc ElemPair)
    → value_texts (roll-ElemValue layer) ≡ layer_texts value_texts annotation_texts layer
unfolding value_texts annotation_texts
rolled_value (ElemValue-F.List values) =
    fold-roll-ElemValue ℕ ℕ ℕ value_layer annotation_layer element_layer (ElemValue-F.List values)
    ∙ total_map value_texts values
rolled_value layer = fold-roll-ElemValue ℕ ℕ ℕ value_layer annotation_layer element_layer layer

-- a value made of this layer
pub value_made : (layer : ElemValue-F ElemValue AnnDesc ElemPair) (value : ElemValue)
    → roll-ElemValue layer ≡ value
    → value_texts value ≡ layer_texts value_texts annotation_texts layer
value_made layer value is = ap value_texts (sym is) ∙ rolled_value layer

pub annotation_is : (a : AnnDesc) → annotation_texts a ≡ length (out-AnnDesc a).descriptor
    + total element_texts (out-AnnDesc a).elements
unfolding annotation_texts element_texts
annotation_is a =
    fold_out-AnnDesc ℕ ℕ ℕ value_layer annotation_layer element_layer a
    ∙ ap (λ n. length (out-AnnDesc a).descriptor + n)
    (total_map element_texts (out-AnnDesc a).elements)

pub element_is : (e : ElemPair) → element_texts e ≡ length (out-ElemPair e).name
    + value_texts (out-ElemPair e).value
unfolding element_texts value_texts
element_is e = fold_out-ElemPair ℕ ℕ ℕ value_layer annotation_layer element_layer e

pub annotation_made : (a : AnnDesc-F ElemValue AnnDesc ElemPair)
    → annotation_texts (roll-AnnDesc a) ≡ length a.descriptor + total element_texts a.elements
annotation_made a =
    annotation_is (roll-AnnDesc a)
    ∙ ap (λ (a : AnnDesc-F ElemValue AnnDesc ElemPair).
    length a.descriptor + total element_texts a.elements) (out-roll-AnnDesc a)

pub element_made : (e : ElemPair-F ElemValue AnnDesc ElemPair)
    → element_texts (roll-ElemPair e) ≡ length e.name + value_texts e.value
element_made e =
    element_is (roll-ElemPair e)
    ∙ ap (λ (e : ElemPair-F ElemValue AnnDesc ElemPair). length e.name + value_texts e.value)
    (out-roll-ElemPair e)

-- ---- attributes

pub rolled_attribute : (layer : Attr-F Attr ComponentDesc)
    → attribute_texts (roll-Attr layer) ≡ body_texts component_texts layer
unfolding attribute_texts component_texts
rolled_attribute (Attr-F.Components components) =
    fold-roll-Attr ℕ ℕ attribute_layer component_layer (Attr-F.Components components)
    ∙ total_map component_texts components
rolled_attribute layer = fold-roll-Attr ℕ ℕ attribute_layer component_layer layer

pub attribute_is : (a : Attr) → attribute_texts a ≡ body_texts component_texts (out-Attr a)
attribute_is a = ap attribute_texts (sym (roll-out-Attr a)) ∙ rolled_attribute (out-Attr a)

-- an attribute made of this layer
pub attribute_made : (layer : Attr-F Attr ComponentDesc) (a : Attr) → roll-Attr layer ≡ a
    → attribute_texts a ≡ body_texts component_texts layer
attribute_made layer a is = ap attribute_texts (sym is) ∙ rolled_attribute layer

pub component_is : (c : ComponentDesc) → component_texts c ≡ length (out-ComponentDesc c).name
    + length (out-ComponentDesc c).descriptor + total attribute_texts (out-ComponentDesc c).attrs
unfolding component_texts attribute_texts
component_is c =
    fold_out-ComponentDesc ℕ ℕ attribute_layer component_layer c
    ∙ ap (λ n. length (out-ComponentDesc c).name + length (out-ComponentDesc c).descriptor + n)
    (total_map attribute_texts (out-ComponentDesc c).attrs)

pub component_made : (c : ComponentDesc-F Attr ComponentDesc)
    → component_texts (roll-ComponentDesc c)
    ≡ length c.name + length c.descriptor + total attribute_texts c.attrs
component_made c =
    component_is (roll-ComponentDesc c)
    ∙ ap (λ (c : ComponentDesc-F Attr ComponentDesc).
    length c.name + length c.descriptor + total attribute_texts c.attrs) (out-roll-ComponentDesc c)
