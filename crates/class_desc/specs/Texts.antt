-- How much text a description has: the bytes of all its texts, each as often as it stands there.
-- The names of attributes aren't among them: a description has their kinds.
use Rattle.std.specs.Prelude.{ℕ, ◌+◌, List, [], ◌∷◌, length, Option, Some, None}
use Rattle.class_desc.specs.declared.annotation.AnnDesc.{AnnDesc, fold-AnnDesc}
use Rattle.class_desc.specs.declared.annotation.ElemPair.{ElemPair, fold-ElemPair}
use Rattle.class_desc.specs.declared.annotation.ElemValue.{ElemValue, fold-ElemValue}
use Rattle.class_desc.specs.declared.annotation.ElemValue.TheOpen.{ElemValue-F, AnnDesc-F}
use Rattle.class_desc.specs.declared.annotation.ElemValue.TheOpen.{ElemPair-F}
use Rattle.class_desc.specs.declared.attribute.Attr.{Attr, fold-Attr}
use Rattle.class_desc.specs.declared.attribute.Attr.TheOpen.{Attr-F, ComponentDesc-F}
use Rattle.class_desc.specs.declared.attribute.ComponentDesc.{ComponentDesc, fold-ComponentDesc}
use Rattle.class_desc.specs.declared.attribute.InnerEntry.{InnerEntry}
use Rattle.class_desc.specs.declared.attribute.ParamEntry.{ParamEntry}
use Rattle.class_desc.specs.declared.class.ClassDesc.{ClassDesc}
use Rattle.class_desc.specs.declared.class.FieldDesc.{FieldDesc}
use Rattle.class_desc.specs.declared.class.MethodDesc.{MethodDesc}
use Rattle.class_desc.specs.declared.value.Value.{Value}
use Rattle.class_desc.specs.declared.value.Value.TheVariants as constant

-- what the items have in all
abbrev pub total : {A : Type 0} → (A → ℕ) → List A → ℕ
total weight [] = 0
total weight (item ∷ items) = weight item + total weight items

-- ---- single items

-- a text, or none
abbrev pub option_texts : Option (List ℕ) → ℕ
option_texts None = 0
option_texts (Some text) = length text

abbrev pub constant_texts : Value → ℕ
constant_texts (constant.Integer n) = 0
constant_texts (constant.Long n) = 0
constant_texts (constant.Raw32 bits) = 0
constant_texts (constant.Raw64 bits) = 0
constant_texts (constant.Str text) = length text

abbrev pub inner_texts : InnerEntry → ℕ
inner_texts e = length e.inner + option_texts e.outer + option_texts e.name

abbrev pub parameter_texts : ParamEntry → ℕ
parameter_texts e = option_texts e.name

-- ---- values and annotations, by what the values and annotations in them have

abbrev pub layer_texts : {V A E : Type 0} → (V → ℕ) → (A → ℕ) → ElemValue-F V A E → ℕ
layer_texts of_value of_annotation (ElemValue-F.Const tag constant) = constant_texts constant
layer_texts of_value of_annotation (ElemValue-F.Enumerated descriptor name) =
    length descriptor + length name
layer_texts of_value of_annotation (ElemValue-F.ClassOf descriptor) = length descriptor
layer_texts of_value of_annotation (ElemValue-F.Nested annotation) = of_annotation annotation
layer_texts of_value of_annotation (ElemValue-F.List values) = total of_value values

abbrev pub value_layer : ElemValue-F ℕ ℕ ℕ → ℕ
value_layer layer = layer_texts (λ value. value) (λ annotation. annotation) layer

abbrev pub annotation_layer : AnnDesc-F ℕ ℕ ℕ → ℕ
annotation_layer a = length a.descriptor + total (λ element. element) a.elements

abbrev pub element_layer : ElemPair-F ℕ ℕ ℕ → ℕ
element_layer e = length e.name + e.value

unfoldable pub value_texts : ElemValue → ℕ
value_texts value = fold-ElemValue ℕ ℕ ℕ value_layer annotation_layer element_layer value

unfoldable pub annotation_texts : AnnDesc → ℕ
annotation_texts annotation = fold-AnnDesc ℕ ℕ ℕ value_layer annotation_layer element_layer
    annotation

unfoldable pub element_texts : ElemPair → ℕ
element_texts element = fold-ElemPair ℕ ℕ ℕ value_layer annotation_layer element_layer element

-- ---- attributes, by what their components have

abbrev pub body_texts : {A C : Type 0} → (C → ℕ) → Attr-F A C → ℕ
body_texts of_component (Attr-F.ConstantValue value) = constant_texts value
body_texts of_component (Attr-F.Exceptions names) = total length names
body_texts of_component (Attr-F.Signature text) = length text
body_texts of_component Attr-F.Deprecated = 0
body_texts of_component Attr-F.Synthetic = 0
body_texts of_component (Attr-F.InnerClasses entries) = total inner_texts entries
body_texts of_component (Attr-F.Components components) = total of_component components
body_texts of_component (Attr-F.PermittedSubclasses names) = total length names
body_texts of_component (Attr-F.AnnotationDefault value) = value_texts value
body_texts of_component (Attr-F.MethodParameters entries) = total parameter_texts entries
body_texts of_component (Attr-F.VisibleAnns annotations) = total annotation_texts annotations
body_texts of_component (Attr-F.InvisibleAnns annotations) = total annotation_texts annotations
body_texts of_component (Attr-F.VisibleParamAnns lists) = total (total annotation_texts) lists
body_texts of_component (Attr-F.InvisibleParamAnns lists) = total (total annotation_texts) lists

abbrev pub attribute_layer : Attr-F ℕ ℕ → ℕ
attribute_layer layer = body_texts (λ component. component) layer

abbrev pub component_layer : ComponentDesc-F ℕ ℕ → ℕ
component_layer c = length c.name + length c.descriptor + total (λ attribute. attribute) c.attrs

unfoldable pub attribute_texts : Attr → ℕ
attribute_texts attr = fold-Attr ℕ ℕ attribute_layer component_layer attr

unfoldable pub component_texts : ComponentDesc → ℕ
component_texts component = fold-ComponentDesc ℕ ℕ attribute_layer component_layer component

-- ---- the class

-- a field or a method
abbrev pub member_texts : List ℕ → List ℕ → List Attr → ℕ
member_texts name descriptor attrs = length name + length descriptor + total attribute_texts attrs

abbrev pub field_texts : FieldDesc → ℕ
field_texts f = member_texts f.name f.descriptor f.attrs

abbrev pub method_texts : MethodDesc → ℕ
method_texts m = member_texts m.name m.descriptor m.attrs

abbrev pub class_texts : ClassDesc → ℕ
class_texts d =
    length d.name + option_texts d.super_name + total length d.interfaces
    + total field_texts d.fields + total method_texts d.methods + total attribute_texts d.attrs
