-- Values and annotations as they are laid out (JVMS 4.7.16).
use Rattle.std.proofs.Common.{ℕ, zero, suc, arith, List, [], ◌∷◌}
use Rattle.std.specs.List.{flat_map, AllByRecursion}
use Rattle.class_desc.specs.declared.annotation.AnnDesc.{AnnDesc, out-AnnDesc}
use Rattle.class_desc.specs.declared.annotation.ElemPair.{ElemPair, out-ElemPair}
use Rattle.class_desc.specs.declared.annotation.ElemValue.{ElemValue, out-ElemValue}
use Rattle.class_desc.specs.declared.annotation.ElemValue.TheOpen.{ElemValue-F}
use Rattle.class_desc.specs.declared.annotation.TheConstants.{DEEPEST_VALUE}
use Rattle.class_desc.specs.declared.element_tag.TheConstants.{ENUMERATED, CLASS, ANNOTATION, LIST}
use Rattle.class_desc.specs.declared.value.Value.{Value}
use Rattle.class_desc.specs.Attributes.{ElementSpells, AnnotationSpells, LayerSpells, ValueSpells}
use Rattle.class_desc.specs.Attributes.{TopValueSpells, AnnotationsSpell}
use Rattle.class_desc.specs.Constants.{element_constant}
use Rattle.class_desc.specs.Forms.{IsAnyText, IsFieldDescriptor, IsReturnDescriptor}
use Rattle.class_desc.specs.Items.{NamesTextOf, NamesClassOf, NamesConstant, Numbered}
use Rattle.class_desc.specs.Pool.{Entry, entry_bytes, EntryFits, NamesText}
use Rattle.class_desc.specs.Layout.{TextNeed, ClassNeed, constant_need, text_item, class_item}
use Rattle.class_desc.specs.Layout.{EntryNumber, value_items, annotation_items, element_items}
use Rattle.class_desc.specs.Layout.{annotation_list}
use Rattle.class_writer.proofs.Entries.{IsByte}
use Rattle.class_writer.proofs.Laid.{Laid, entry_laid, laid_as, item_laid}
use Rattle.class_writer.proofs.Laid.{tagged_laid, counted_laid}
use Rattle.class_writer.proofs.Layers.{Layer, layer_items, value_parts, annotation_parts}
use Rattle.class_writer.proofs.Layers.{element_parts}
use Rattle.class_writer.proofs.Named.{text_named, class_named, constant_named, tag_is_byte}

module _ (read : List Entry) (fit : AllByRecursion EntryFits read)
    (octets : AllByRecursion IsByte (flat_map entry_bytes read)) where
  -- ---- texts and classes

  pub text_laid : (IsForm : List ℕ → Type 0) (text bytes : List ℕ)
      → Numbered (NamesTextOf read IsForm) text bytes
      → Laid read (text_item text ∷ []) bytes
      (λ entries. Numbered (NamesTextOf entries IsForm) text)
  text_laid IsForm text bytes given =
      entry_laid read (λ entries. NamesTextOf entries IsForm) text (TextNeed text) bytes given
      (text_named read fit octets IsForm given.number text given.named)

  pub class_laid : (name bytes : List ℕ) → Numbered (NamesClassOf read) name bytes
      → Laid read (class_item name ∷ []) bytes (λ entries. Numbered (NamesClassOf entries) name)
  class_laid name bytes given =
      entry_laid read NamesClassOf name (ClassNeed name) bytes given
      (class_named read fit octets given.number name given.named)

  -- ---- constants

  constant_laid : (tag : ℕ) (constant : Value) (bytes : List ℕ)
      → Numbered (NamesConstant (NamesText read) read (element_constant tag)) constant bytes
      → Laid read (EntryNumber (constant_need TextNeed constant) ∷ []) bytes
      (λ entries. Numbered (NamesConstant (NamesText entries) entries (element_constant tag))
      constant)
  constant_laid tag constant bytes given =
      entry_laid read
      (λ entries. NamesConstant (NamesText entries) entries (element_constant tag)) constant
      (constant_need TextNeed constant) bytes given
      (constant_named read fit octets NamesText TextNeed (text_named read fit octets IsAnyText)
      (element_constant tag) given.number constant given.named)

  -- ---- by the values in them

  module _ (ValueIs : List Entry → ElemValue → List ℕ → Type 0)
      (law : (value : ElemValue) (bytes : List ℕ) → ValueIs read value bytes
      → Laid read (value_items value) bytes (λ entries. ValueIs entries value)) where
    element_laid : (element : ElemPair) (bytes : List ℕ)
        → ElementSpells read (ValueIs read) element bytes
        → Laid read (element_items element) bytes
        (λ entries. ElementSpells entries (ValueIs entries) element)
    element_laid element bytes given =
        let e = out-ElemPair element in
        laid_as (element_parts element)
        (item_laid given.whole (text_laid IsAnyText e.name given.front given.first)
        (law e.value given.rest given.second))

    pub annotation_laid : (annotation : AnnDesc) (bytes : List ℕ)
        → AnnotationSpells read (ValueIs read) annotation bytes
        → Laid read (annotation_items annotation) bytes
        (λ entries. AnnotationSpells entries (ValueIs entries) annotation)
    annotation_laid annotation bytes given =
        let a = out-AnnDesc annotation in
        laid_as (annotation_parts annotation)
        (item_laid given.whole (text_laid IsFieldDescriptor a.descriptor given.front given.first)
        (counted_laid read (λ entries. ElementSpells entries (ValueIs entries)) element_items
        element_laid a.elements given.rest given.second))

    layer_laid : (layer : Layer) (bytes : List ℕ) → LayerSpells read (ValueIs read) layer bytes
        → Laid read (layer_items layer) bytes
        (λ entries. LayerSpells entries (ValueIs entries) layer)
    layer_laid (ElemValue-F.Const tag constant) bytes given =
        tagged_laid tag
        (tag_is_byte (NamesText read) read tag given.spelled.number constant given.spelled.named)
        given.whole (constant_laid tag constant given.rest given.spelled)
    layer_laid (ElemValue-F.Enumerated descriptor name) bytes given =
        let both = given.spelled in
        tagged_laid ENUMERATED (omega arith) given.whole
        (item_laid both.whole (text_laid IsFieldDescriptor descriptor both.front both.first)
        (text_laid IsAnyText name both.rest both.second))
    layer_laid (ElemValue-F.ClassOf descriptor) bytes given =
        tagged_laid CLASS (omega arith) given.whole
        (text_laid IsReturnDescriptor descriptor given.rest given.spelled)
    layer_laid (ElemValue-F.Nested annotation) bytes given =
        tagged_laid ANNOTATION (omega arith) given.whole
        (annotation_laid annotation given.rest given.spelled)
    layer_laid (ElemValue-F.List values) bytes given =
        tagged_laid LIST (omega arith) given.whole
        (counted_laid read ValueIs value_items law values given.rest given.spelled)

  -- ---- by the depth that is left

  value_laid : (left : ℕ) (value : ElemValue) (bytes : List ℕ)
      → ValueSpells read left value bytes
      → Laid read (value_items value) bytes (λ entries. ValueSpells entries left value)
  value_laid zero value bytes given = absurd given
  value_laid (suc left) value bytes given =
      laid_as (value_parts value)
      (layer_laid (λ entries. ValueSpells entries left) (value_laid left) (out-ElemValue value)
      bytes given)

  pub top_value_laid : (value : ElemValue) (bytes : List ℕ) → TopValueSpells read value bytes
      → Laid read (value_items value) bytes (λ entries. TopValueSpells entries value)
  top_value_laid value bytes given = value_laid DEEPEST_VALUE value bytes given

  pub annotations_laid : (annotations : List AnnDesc) (bytes : List ℕ)
      → AnnotationsSpell read annotations bytes
      → Laid read (annotation_list annotations) bytes
      (λ entries. AnnotationsSpell entries annotations)
  annotations_laid annotations bytes given =
      counted_laid read (λ entries. AnnotationSpells entries (TopValueSpells entries))
      annotation_items (annotation_laid TopValueSpells top_value_laid) annotations bytes given
