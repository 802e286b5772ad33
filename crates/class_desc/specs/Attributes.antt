-- The grammar of attributes (JVMS 4.7), over a free pool. Each kind that a description keeps is
-- one case; every other attribute, and a kind at a place that doesn't keep it, is passed over.
use Rattle.std.specs.Prelude.{◌≡◌, ℕ, zero, suc, Bool, true, false, List, [], map, Option}
use Rattle.std.specs.Prelude.{Some, None}
use Rattle.std.specs.List.{filter_map, IsDistinct}
use Rattle.class_desc.specs.declared.annotation.AnnDesc.{AnnDesc, out-AnnDesc}
use Rattle.class_desc.specs.declared.annotation.ElemPair.{ElemPair, out-ElemPair}
use Rattle.class_desc.specs.declared.annotation.ElemValue.{ElemValue, out-ElemValue}
use Rattle.class_desc.specs.declared.annotation.ElemValue.TheOpen.{ElemValue-F}
use Rattle.class_desc.specs.declared.annotation.TheConstants.{DEEPEST_VALUE}
use Rattle.class_desc.specs.declared.attribute.Attr.{Attr, out-Attr}
use Rattle.class_desc.specs.declared.attribute.Attr.TheOpen.{Attr-F}
use Rattle.class_desc.specs.declared.attribute.ComponentDesc.{ComponentDesc, out-ComponentDesc}
use Rattle.class_desc.specs.declared.attribute.InnerEntry.{InnerEntry}
use Rattle.class_desc.specs.declared.attribute.ParamEntry.{ParamEntry}
use Rattle.class_desc.specs.declared.element_tag.TheConstants.{ENUMERATED, CLASS, ANNOTATION, LIST}
use Rattle.class_desc.specs.declared.place.Place.{Place}
use Rattle.class_desc.specs.declared.place.Place.TheVariants as place
use Rattle.java_names.specs.Names.{is_text}
use Rattle.class_desc.specs.Constants.{field_constant, element_constant}
use Rattle.class_desc.specs.Forms.{IsAnyText, IsFieldName, IsFieldDescriptor, IsReturnDescriptor}
use Rattle.class_desc.specs.Forms.{IsSignatureText}
use Rattle.class_desc.specs.Items.{NamesTextOf, NamesClassOf, NamesString, NamesConstant, OrZero}
use Rattle.class_desc.specs.Items.{Numbered, FlagsSpell, Both, Tagged, Within, CountedSpells}
use Rattle.class_desc.specs.Items.{ForParametersSpell}
use Rattle.class_desc.specs.Places.{keeps, attribute_name}
use Rattle.class_desc.specs.Pool.{Entry, NamesText}

-- how an item is spelled
abbrev pub Spelling : Type 0 → Type 1
Spelling A = A → List ℕ → Type 0

-- ---- values and annotations

module _ (pool : List Entry) where
  -- an element (JVMS 4.7.16): its name, of any form, and its value
  abbrev pub ElementSpells : Spelling ElemValue → Spelling ElemPair
  ElementSpells ValueIs element =
      let e = out-ElemPair element in
      Both (Numbered (NamesTextOf pool IsAnyText) e.name) (ValueIs e.value)

  -- an annotation (JVMS 4.7.16): its type, and its elements
  abbrev pub AnnotationSpells : Spelling ElemValue → Spelling AnnDesc
  AnnotationSpells ValueIs annotation =
      let a = out-AnnDesc annotation in
      Both (Numbered (NamesTextOf pool IsFieldDescriptor) a.descriptor)
      (CountedSpells (ElementSpells ValueIs) a.elements)

  -- the value of an element (JVMS 4.7.16.1), by the values in it
  abbrev pub LayerSpells : Spelling ElemValue → Spelling (ElemValue-F ElemValue AnnDesc ElemPair)
  LayerSpells ValueIs (ElemValue-F.Const tag constant) =
      Tagged tag (Numbered (NamesConstant (NamesText pool) pool (element_constant tag)) constant)
  LayerSpells ValueIs (ElemValue-F.Enumerated descriptor name) =
      Tagged ENUMERATED
      (Both (Numbered (NamesTextOf pool IsFieldDescriptor) descriptor)
      (Numbered (NamesTextOf pool IsAnyText) name))
  LayerSpells ValueIs (ElemValue-F.ClassOf descriptor) =
      Tagged CLASS (Numbered (NamesTextOf pool IsReturnDescriptor) descriptor)
  LayerSpells ValueIs (ElemValue-F.Nested annotation) =
      Tagged ANNOTATION (AnnotationSpells ValueIs annotation)
  LayerSpells ValueIs (ElemValue-F.List values) = Tagged LIST (CountedSpells ValueIs values)

  -- a value, nested at most as deep as this: one without values in it is 1 deep
  abbrev pub ValueSpells : ℕ → Spelling ElemValue
  ValueSpells zero value bytes = ⊥
  ValueSpells (suc left) value bytes = LayerSpells (ValueSpells left) (out-ElemValue value) bytes

  -- a value that stands in no other
  abbrev pub TopValueSpells : Spelling ElemValue
  TopValueSpells = ValueSpells DEEPEST_VALUE

  -- annotations behind their count (JVMS 4.7.16, 4.7.17)
  abbrev pub AnnotationsSpell : Spelling (List AnnDesc)
  AnnotationsSpell = CountedSpells (AnnotationSpells TopValueSpells)

-- ---- the bodies

module _ (pool : List Entry) where
  abbrev pub ClassesSpell : Spelling (List (List ℕ))
  ClassesSpell = CountedSpells (Numbered (NamesClassOf pool))

  -- an entry of InnerClasses (JVMS 4.7.6): an anonymous class has no name, a local one no outer
  -- class
  abbrev pub InnerSpells : Spelling InnerEntry
  InnerSpells e =
      Both (Numbered (NamesClassOf pool) e.inner)
      (Both (Numbered (OrZero (NamesClassOf pool)) e.outer)
      (Both (Numbered (OrZero (NamesTextOf pool IsAnyText)) e.name) (FlagsSpell e.flags)))

  -- the entries of InnerClasses, each of another class
  pub record InnerClassesSpell (entries : List InnerEntry) (bytes : List ℕ) : Type 0 where
    pub spelled : CountedSpells InnerSpells entries bytes
    pub distinct : IsDistinct is_text (map (λ e. e.inner) entries)

  -- an entry of MethodParameters (JVMS 4.7.24), with a name or without
  abbrev pub ParameterSpells : Spelling ParamEntry
  ParameterSpells e =
      Both (Numbered (OrZero (NamesTextOf pool IsAnyText)) e.name) (FlagsSpell e.flags)

  -- The body of an attribute of each kind. A constant is that of a field of this descriptor, and a
  -- component is spelled so.
  abbrev pub BodySpells : Place → List ℕ → Spelling ComponentDesc
      → Spelling (Attr-F Attr ComponentDesc)
  -- JVMS 4.7.2
  BodySpells place descriptor ComponentIs (Attr-F.ConstantValue constant) =
      Numbered (NamesConstant (NamesString pool) pool (field_constant descriptor)) constant
  -- JVMS 4.7.5
  BodySpells place descriptor ComponentIs (Attr-F.Exceptions names) = ClassesSpell names
  -- JVMS 4.7.9
  BodySpells place descriptor ComponentIs (Attr-F.Signature text) =
      Numbered (NamesTextOf pool (IsSignatureText place)) text
  -- JVMS 4.7.15
  BodySpells place descriptor ComponentIs Attr-F.Deprecated = λ bytes. bytes ≡ []
  -- JVMS 4.7.8
  BodySpells place descriptor ComponentIs Attr-F.Synthetic = λ bytes. bytes ≡ []
  -- JVMS 4.7.6
  BodySpells place descriptor ComponentIs (Attr-F.InnerClasses entries) = InnerClassesSpell entries
  -- JVMS 4.7.30
  BodySpells place descriptor ComponentIs (Attr-F.Components components) =
      CountedSpells ComponentIs components
  -- JVMS 4.7.31
  BodySpells place descriptor ComponentIs (Attr-F.PermittedSubclasses names) = ClassesSpell names
  -- JVMS 4.7.22
  BodySpells place descriptor ComponentIs (Attr-F.AnnotationDefault value) =
      TopValueSpells pool value
  -- JVMS 4.7.24
  BodySpells place descriptor ComponentIs (Attr-F.MethodParameters entries) =
      ForParametersSpell ParameterSpells entries
  -- JVMS 4.7.16 to 4.7.19
  BodySpells place descriptor ComponentIs (Attr-F.VisibleAnns annotations) =
      AnnotationsSpell pool annotations
  BodySpells place descriptor ComponentIs (Attr-F.InvisibleAnns annotations) =
      AnnotationsSpell pool annotations
  BodySpells place descriptor ComponentIs (Attr-F.VisibleParamAnns lists) =
      ForParametersSpell (AnnotationsSpell pool) lists
  BodySpells place descriptor ComponentIs (Attr-F.InvisibleParamAnns lists) =
      ForParametersSpell (AnnotationsSpell pool) lists

  -- ---- lists of attributes

  -- an attribute (JVMS 4.7), by the number of its name, which this place keeps or doesn't
  abbrev pub NamesAttribute : Place → Bool → ℕ → List ℕ → Type 0
  NamesAttribute place kept = NamesTextOf pool (λ name. keeps place name ≡ kept)

  -- one that is kept, or one that is passed over, whatever its body
  abbrev pub AttributeSpells : Place → List ℕ → Spelling ComponentDesc → Spelling (Option Attr)
  AttributeSpells place descriptor ComponentIs (Some attr) =
      Both (Numbered (NamesAttribute place true) (attribute_name attr))
      (Within (BodySpells place descriptor ComponentIs (out-Attr attr)))
  AttributeSpells place descriptor ComponentIs None =
      λ bytes. (name : List ℕ)
      × Both (Numbered (NamesAttribute place false) name) (Within (λ body. Unit {0})) bytes

-- The attributes of a class, field, method or component, behind their count: the kept ones, each
-- of another kind, and others between them. At a field the descriptor is that of the field.
pub record AttributesOver (pool : List Entry) (place : Place) (descriptor : List ℕ)
    (ComponentIs : Spelling ComponentDesc) (kept : List Attr) (bytes : List ℕ) : Type 0 where
  pub listed : List (Option Attr)
  pub spelled : CountedSpells (AttributeSpells pool place descriptor ComponentIs) listed bytes
  pub are_kept : kept ≡ filter_map (λ item. item) listed
  pub distinct : IsDistinct is_text (map attribute_name kept)

-- a component of a record (JVMS 4.7.30): no component keeps a Record of its own
abbrev pub ComponentSpells : List Entry → Spelling ComponentDesc
ComponentSpells pool component =
    let c = out-ComponentDesc component in
    Both (Numbered (NamesTextOf pool IsFieldName) c.name)
    (Both (Numbered (NamesTextOf pool IsFieldDescriptor) c.descriptor)
    (AttributesOver pool place.Component c.descriptor (λ inner bytes. ⊥) c.attrs))

-- the attributes of a class, a field or a method
abbrev pub AttributesSpell : List Entry → Place → List ℕ → Spelling (List Attr)
AttributesSpell pool place descriptor = AttributesOver pool place descriptor (ComponentSpells pool)
