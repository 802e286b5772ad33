-- Values and annotations, put part by part.
use Rattle.std.proofs.Common.{◌≡◌, ℕ, List, [], ◌∷◌, sym, ap, ◌∙◌}
use Rattle.class_desc.specs.declared.annotation.AnnDesc.{AnnDesc, out-AnnDesc}
use Rattle.class_desc.specs.declared.annotation.ElemPair.{ElemPair, out-ElemPair}
use Rattle.class_desc.specs.declared.annotation.ElemValue.{ElemValue}
use Rattle.class_desc.specs.declared.annotation.ElemValue.TheVariants as value
use Rattle.class_desc.specs.declared.element_tag.TheConstants.{ENUMERATED, CLASS, ANNOTATION, LIST}
use Rattle.class_desc.specs.declared.value.Value.{Value}
use Rattle.class_desc.specs.Layout.{Need, Tag, EntryNumber, TextNeed, constant_need, text_item}
use Rattle.class_desc.specs.Layout.{counted, value_items, annotation_items, element_items}
use Rattle.class_writer.specs.Writing.{Outline, Puts}
use Rattle.class_writer.proofs.Layers.{constant_items, enumerated_items, class_of_items}
use Rattle.class_writer.proofs.Layers.{nested_items, list_items, annotation_parts, element_parts}
use Rattle.class_writer.proofs.Putting.{puts_as, puts_then}

pub constant_put : (v : ElemValue) (tag : ℕ) (constant : Value) (need : Need) {a b c : Outline}
    → v ≡ value.Const tag constant → need ≡ constant_need TextNeed constant
    → Puts (Tag tag ∷ []) a b → Puts (EntryNumber need ∷ []) b c → Puts (value_items v) a c
constant_put v tag constant need is same one two =
    puts_as (ap (λ n. Tag tag ∷ EntryNumber n ∷ []) same
    ∙ sym (ap value_items is ∙ constant_items tag constant)) (puts_then one two)

pub enumerated_put : (v : ElemValue) (descriptor name : List ℕ) {a b c d : Outline}
    → v ≡ value.Enumerated descriptor name
    → Puts (Tag ENUMERATED ∷ []) a b → Puts (text_item descriptor ∷ []) b c
    → Puts (text_item name ∷ []) c d → Puts (value_items v) a d
enumerated_put v descriptor name is one two three =
    puts_as (sym (ap value_items is ∙ enumerated_items descriptor name))
    (puts_then one (puts_then two three))

pub class_of_put : (v : ElemValue) (descriptor : List ℕ) {a b c : Outline}
    → v ≡ value.ClassOf descriptor
    → Puts (Tag CLASS ∷ []) a b → Puts (text_item descriptor ∷ []) b c → Puts (value_items v) a c
class_of_put v descriptor is one two = puts_as
    (sym (ap value_items is ∙ class_of_items descriptor)) (puts_then one two)

pub nested_put : (v : ElemValue) (annotation got : AnnDesc) {a b c : Outline}
    → v ≡ value.Nested annotation → got ≡ annotation
    → Puts (Tag ANNOTATION ∷ []) a b → Puts (annotation_items got) b c → Puts (value_items v) a c
nested_put v annotation got is same one two =
    puts_as (ap (λ a. Tag ANNOTATION ∷ annotation_items a) same
    ∙ sym (ap value_items is ∙ nested_items annotation)) (puts_then one two)

pub list_put : (v : ElemValue) (values got : List ElemValue) {a b c : Outline}
    → v ≡ value.List values → got ≡ values
    → Puts (Tag LIST ∷ []) a b → Puts (counted value_items got) b c → Puts (value_items v) a c
list_put v values got is same one two =
    puts_as (ap (λ vs. Tag LIST ∷ counted value_items vs) same
    ∙ sym (ap value_items is ∙ list_items values)) (puts_then one two)

pub annotation_put : (annotation : AnnDesc) (elements : List ElemPair) {a b c : Outline}
    → elements ≡ (out-AnnDesc annotation).elements
    → Puts (text_item (out-AnnDesc annotation).descriptor ∷ []) a b
    → Puts (counted element_items elements) b c → Puts (annotation_items annotation) a c
annotation_put annotation elements same one two =
    puts_as (sym (annotation_parts annotation))
    (puts_then one (puts_as (ap (counted element_items) same) two))

pub element_put : (element : ElemPair) {a b c : Outline}
    → Puts (text_item (out-ElemPair element).name ∷ []) a b
    → Puts (value_items (out-ElemPair element).value) b c → Puts (element_items element) a c
element_put element one two = puts_as (sym (element_parts element)) (puts_then one two)
