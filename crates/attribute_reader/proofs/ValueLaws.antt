-- Values and annotations.
use Rattle.std.proofs.Common.{◌≡◌, ℕ, zero, suc, Bool, true, false, cond, eqb}
use Rattle.std.proofs.Common.{List, [], ◌∷◌, ◌++◌, Option, Some, None, Ok, Err, refl, sym, ap}
use Rattle.std.proofs.Common.{subst, ◌∙◌, ◌+◌, length, inl, inr, arith}
use Rattle.std.specs.Int.{w8}
use Rattle.std.proofs.lemmas.Bool.{eqb-true}
use Rattle.class_desc.specs.declared.annotation.AnnDesc.{AnnDesc, out-AnnDesc, roll-AnnDesc}
use Rattle.class_desc.specs.declared.annotation.AnnDesc.{out-roll-AnnDesc, roll-out-AnnDesc}
use Rattle.class_desc.specs.declared.annotation.ElemPair.{ElemPair, out-ElemPair, roll-ElemPair}
use Rattle.class_desc.specs.declared.annotation.ElemPair.{out-roll-ElemPair, roll-out-ElemPair}
use Rattle.class_desc.specs.declared.annotation.ElemValue.{ElemValue, out-ElemValue}
use Rattle.class_desc.specs.declared.annotation.ElemValue.{roll-ElemValue, out-roll-ElemValue}
use Rattle.class_desc.specs.declared.annotation.ElemValue.{roll-out-ElemValue}
use Rattle.class_desc.specs.declared.annotation.ElemValue.TheOpen.{ElemValue-F}
use Rattle.class_desc.specs.declared.annotation.ElemValue.TheOpen.{AnnDesc-F, ElemPair-F}
use Rattle.class_desc.specs.declared.annotation.ElemValue.TheVariants as value
use Rattle.class_desc.specs.declared.annotation.TheConstants.{DEEPEST_VALUE}
use Rattle.class_desc.specs.declared.constant_kind.ConstantKind.{ConstantKind}
use Rattle.class_desc.specs.declared.element_tag.TheConstants.{ENUMERATED, CLASS, ANNOTATION, LIST}
use Rattle.class_desc.specs.declared.value.Value.{Value}
use Rattle.class_desc.specs.Attributes.{ElementSpells, AnnotationSpells, LayerSpells, ValueSpells}
use Rattle.class_desc.specs.Attributes.{TopValueSpells, AnnotationsSpell}
use Rattle.class_desc.specs.Constants.{element_constant}
use Rattle.class_desc.specs.Forms.{IsAnyText, IsFieldDescriptor, IsReturnDescriptor}
use Rattle.class_desc.specs.Items.{NamesTextOf, NamesConstant, Numbered, Both, Tagged}
use Rattle.class_desc.specs.Items.{CountedSpells}
use Rattle.class_desc.specs.Pool.{Entry, NamesText}
use Rattle.class_desc.specs.Texts.{total, value_texts, annotation_texts, element_texts}
use Rattle.class_desc.proofs.Texts.{value_made, annotation_made, element_made}
use Rattle.pool_reader.specs.declared.fault.ClassKind.TheVariants.{F7, F12}
use Rattle.pool_reader.specs.Reading.{◌>>=◌, Position, offset, Read, fault_at, told, number_at}
use Rattle.pool_reader.specs.Pooled.{rows_of}
use Rattle.pool_reader.proofs.Laws.{Weighs, reads_as, Then, weighs_then, reads_then, Made}
use Rattle.pool_reader.proofs.Laws.{weighs_made}
use Rattle.pool_reader.proofs.Laws.{Either, reads_if, Never, reads_never}
use Rattle.pool_reader.proofs.Numbers.{ByteSpells, reads_byte}
use Rattle.attribute_reader.specs.declared.constants.ConstantPlace.TheVariants as place
use Rattle.attribute_reader.specs.declared.forms.Form.TheVariants as form
use Rattle.attribute_reader.specs.Forms.{form_fault}
use Rattle.attribute_reader.specs.Items.{counted_at}
use Rattle.attribute_reader.specs.Values.{any_text_at, is_tag, element_at}
use Rattle.attribute_reader.specs.Values.{annotation_over, enumerated_at, class_value_at}
use Rattle.attribute_reader.specs.Values.{nested_at, list_at, constant_value_at, behind_tag}
use Rattle.attribute_reader.specs.Values.{value_at, top_value_at, annotations_at}
use Rattle.attribute_reader.proofs.ConstantLaws.{weighs_constant}
use Rattle.attribute_reader.proofs.FormLaws.{return_descriptor_tells}
use Rattle.attribute_reader.proofs.ItemLaws.{weighs_text, weighs_any_text}
use Rattle.attribute_reader.proofs.ItemLaws.{weighs_field_descriptor}
use Rattle.attribute_reader.proofs.ListLaws.{weighs_counted_at}

abbrev Layer : Type 0
Layer = ElemValue-F ElemValue AnnDesc ElemPair

module _ (pool : List Entry) {read : Position → Read ElemValue}
    {ValueIs : ElemValue → List ℕ → Type 0} (law : Weighs 0 value_texts read ValueIs) where
  -- ---- elements and annotations

  abbrev AnyText : List ℕ → List ℕ → Type 0
  AnyText = Numbered (NamesTextOf pool IsAnyText)

  abbrev Descriptor : List ℕ → List ℕ → Type 0
  Descriptor = Numbered (NamesTextOf pool IsFieldDescriptor)

  abbrev ElementParts : ElemPair → List ℕ → Type 0
  ElementParts =
      Then AnyText (λ name. Made (λ value. roll-ElemPair (record { name = name; value = value }))
      ValueIs)

  to_element : (element : ElemPair) (text : List ℕ)
      → ElementParts element text
      → ElementSpells pool ValueIs element text
  to_element element text s =
      let made : ElemPair-F ElemValue AnnDesc ElemPair =
      record { name = s.item; value = s.second.item } in
      let is : out-ElemPair element ≡ made =
      ap out-ElemPair (sym s.second.is) ∙ out-roll-ElemPair made in
      subst (λ (e : ElemPair-F ElemValue AnnDesc ElemPair). Both (AnyText e.name) (ValueIs e.value)
      text) (sym is) (record {
        front = s.front;
        rest = s.rest;
        whole = s.whole;
        first = s.first;
        second = s.second.spells;
      })

  from_element : (element : ElemPair) (text : List ℕ)
      → ElementSpells pool ValueIs element text
      → ElementParts element text
  from_element element text s = record {
    item = (out-ElemPair element).name;
    front = s.front;
    rest = s.rest;
    whole = s.whole;
    first = s.first;
    second = record {
      item = (out-ElemPair element).value;
      is = roll-out-ElemPair element;
      spells = s.second;
    };
  }

  pub reads_element : Weighs 0 element_texts (element_at (rows_of pool) read)
      (ElementSpells pool ValueIs)
  unfolding element_at
  reads_element =
      reads_as (ElementSpells pool ValueIs)
      (weighs_then
      (λ begun name rest. read rest >>= λ value.
      Ok (roll-ElemPair (record { name = name; value = value.0 }), value.1))
      (weighs_any_text pool)
      (λ begun name. weighs_made
      (λ value. roll-ElemPair (record { name = name; value = value }))
      (λ value. omega (arith, element_made (record { name = name; value = value }))) law))
      to_element
      from_element

  abbrev Elements : List ElemPair → List ℕ → Type 0
  Elements = CountedSpells (ElementSpells pool ValueIs)

  abbrev AnnotationParts : AnnDesc → List ℕ → Type 0
  AnnotationParts =
      Then Descriptor
      (λ descriptor. Made
      (λ elements. roll-AnnDesc (record { descriptor = descriptor; elements = elements }))
      Elements)

  to_annotation : (annotation : AnnDesc) (text : List ℕ)
      → AnnotationParts annotation text
      → AnnotationSpells pool ValueIs annotation text
  to_annotation annotation text s =
      let made : AnnDesc-F ElemValue AnnDesc ElemPair =
      record { descriptor = s.item; elements = s.second.item } in
      let is : out-AnnDesc annotation ≡ made =
      ap out-AnnDesc (sym s.second.is) ∙ out-roll-AnnDesc made in
      subst (λ (a : AnnDesc-F ElemValue AnnDesc ElemPair).
      Both (Descriptor a.descriptor) (Elements a.elements) text) (sym is) (record {
        front = s.front;
        rest = s.rest;
        whole = s.whole;
        first = s.first;
        second = s.second.spells;
      })

  from_annotation : (annotation : AnnDesc) (text : List ℕ)
      → AnnotationSpells pool ValueIs annotation text
      → AnnotationParts annotation text
  from_annotation annotation text s = record {
    item = (out-AnnDesc annotation).descriptor;
    front = s.front;
    rest = s.rest;
    whole = s.whole;
    first = s.first;
    second = record {
      item = (out-AnnDesc annotation).elements;
      is = roll-out-AnnDesc annotation;
      spells = s.second;
    };
  }

  pub reads_annotation : Weighs 0 annotation_texts (annotation_over (rows_of pool) read)
      (AnnotationSpells pool ValueIs)
  unfolding annotation_over
  reads_annotation =
      reads_as (AnnotationSpells pool ValueIs)
      (weighs_then
      (λ begun descriptor rest. counted_at (element_at (rows_of pool) read) rest >>= λ elements.
      Ok (roll-AnnDesc (record { descriptor = descriptor; elements = elements.0 }), elements.1))
      (weighs_field_descriptor pool)
      (λ begun descriptor. weighs_made
      (λ elements. roll-AnnDesc (record { descriptor = descriptor; elements = elements }))
      (λ elements. omega (
        arith,
        annotation_made (record { descriptor = descriptor; elements = elements }),
      ))
      (weighs_counted_at reads_element)))
      to_annotation
      from_annotation

  -- ---- what stands behind a tag, by layers

  -- what a value of this layer has behind this tag
  abbrev LayerBehind : ℕ → Layer → List ℕ → Type 0
  LayerBehind tag (ElemValue-F.Const own constant) rest =
      (own ≡ tag) × Numbered (NamesConstant (NamesText pool) pool (element_constant own)) constant
      rest
  LayerBehind tag (ElemValue-F.Enumerated descriptor name) rest =
      (ENUMERATED ≡ tag) × Both (Descriptor descriptor) (AnyText name) rest
  LayerBehind tag (ElemValue-F.ClassOf descriptor) rest =
      (CLASS ≡ tag) × Numbered (NamesTextOf pool IsReturnDescriptor) descriptor rest
  LayerBehind tag (ElemValue-F.Nested annotation) rest =
      (ANNOTATION ≡ tag) × AnnotationSpells pool ValueIs annotation rest
  LayerBehind tag (ElemValue-F.List values) rest =
      (LIST ≡ tag) × CountedSpells ValueIs values rest

  abbrev Behind : ℕ → ElemValue → List ℕ → Type 0
  Behind tag item rest = LayerBehind tag (out-ElemValue item) rest

  -- a value made of this layer
  of_layer : (tag : ℕ) (layer : Layer) (item : ElemValue) (rest : List ℕ)
      → roll-ElemValue layer ≡ item
      → LayerBehind tag layer rest
      → Behind tag item rest
  of_layer tag layer item rest is s =
      subst (λ l. LayerBehind tag l rest) (sym (ap out-ElemValue (sym is)
      ∙ out-roll-ElemValue layer)) s

  -- ---- each kind of value

  abbrev EnumeratedParts : ElemValue → List ℕ → Type 0
  EnumeratedParts = Then Descriptor (λ descriptor. Made (value.Enumerated descriptor) AnyText)

  reads_enumerated : Weighs 0 value_texts (enumerated_at (rows_of pool)) EnumeratedParts
  unfolding enumerated_at
  reads_enumerated =
      weighs_then
      (λ begun descriptor rest. any_text_at (rows_of pool) rest >>= λ name.
      Ok (value.Enumerated descriptor name.0, name.1))
      (weighs_field_descriptor pool)
      (λ begun descriptor. weighs_made (value.Enumerated descriptor)
      (λ name. omega (
        arith,
        value_made (ElemValue-F.Enumerated descriptor name) (value.Enumerated descriptor name)
            (value.rolls-Enumerated descriptor name),
      ))
      (weighs_any_text pool))

  abbrev ClassParts : ElemValue → List ℕ → Type 0
  ClassParts = Made value.ClassOf (Numbered (NamesTextOf pool IsReturnDescriptor))

  reads_class_value : Weighs 0 value_texts (class_value_at (rows_of pool)) ClassParts
  unfolding class_value_at
  reads_class_value =
      weighs_made value.ClassOf
      (λ descriptor. omega (
        arith,
        value_made (ElemValue-F.ClassOf descriptor) (value.ClassOf descriptor)
            (value.rolls-ClassOf descriptor),
      ))
      (weighs_text pool (form_fault form.ReturnDescriptor) IsReturnDescriptor
      return_descriptor_tells)

  abbrev NestedParts : ElemValue → List ℕ → Type 0
  NestedParts = Made value.Nested (AnnotationSpells pool ValueIs)

  reads_nested : Weighs 0 value_texts (nested_at (rows_of pool) read) NestedParts
  unfolding nested_at
  reads_nested =
      weighs_made value.Nested
      (λ annotation. omega (
        arith,
        value_made (ElemValue-F.Nested annotation) (value.Nested annotation)
            (value.rolls-Nested annotation),
      ))
      reads_annotation

  abbrev ListParts : ElemValue → List ℕ → Type 0
  ListParts = Made value.List (CountedSpells ValueIs)

  reads_list : Weighs 0 value_texts (list_at read) ListParts
  unfolding list_at
  reads_list =
      weighs_made value.List
      (λ values. omega (
        arith,
        value_made (ElemValue-F.List values) (value.List values) (value.rolls-List values),
      ))
      (weighs_counted_at law)

  abbrev ConstantParts : ℕ → Option ConstantKind → ElemValue → List ℕ → Type 0
  ConstantParts tag kind =
      Made (value.Const tag) (Numbered (NamesConstant (NamesText pool) pool kind))

  none_named : (tag : ℕ) (item : ElemValue) (text : List ℕ) → ConstantParts tag None item text → ⊥
  none_named tag item text s = s.spells.named

  reads_constant_value : (tag at : ℕ) (kind : Option ConstantKind)
      → Weighs 0 value_texts (constant_value_at (rows_of pool) kind tag at)
      (ConstantParts tag kind)
  unfolding constant_value_at
  reads_constant_value tag at None =
      reads_as (ConstantParts tag None) (reads_never (λ p. fault_at at F7))
      (λ item text s. absurd s)
      (λ item text s. none_named tag item text s)
  reads_constant_value tag at (Some kind) =
      weighs_made (value.Const tag)
      (λ constant. omega (
        arith,
        value_made (ElemValue-F.Const tag constant) (value.Const tag constant)
            (value.rolls-Const tag constant),
      ))
      (weighs_constant pool place.Element (Some kind))

  -- ---- behind a tag

  abbrev Parts : ℕ → ElemValue → List ℕ → Type 0
  Parts tag =
      Either (eqb tag ENUMERATED) EnumeratedParts
      (Either (eqb tag CLASS) ClassParts
      (Either (eqb tag ANNOTATION) NestedParts
      (Either (eqb tag LIST) ListParts (ConstantParts tag (element_constant tag)))))

  to_behind : (tag : ℕ) (item : ElemValue) (rest : List ℕ) → Parts tag item rest
      → Behind tag item rest
  to_behind tag item rest (inl (t, s)) =
      of_layer tag (ElemValue-F.Enumerated s.item s.second.item) item rest
      (value.rolls-Enumerated s.item s.second.item ∙ s.second.is) (
        sym (eqb-true tag ENUMERATED t),
        record {
          front = s.front;
          rest = s.rest;
          whole = s.whole;
          first = s.first;
          second = s.second.spells;
        },
      )
  to_behind tag item rest (inr (a, inl (t, s))) =
      of_layer tag (ElemValue-F.ClassOf s.item) item rest (value.rolls-ClassOf s.item ∙ s.is)
      (sym (eqb-true tag CLASS t), s.spells)
  to_behind tag item rest (inr (a, inr (b, inl (t, s)))) =
      of_layer tag (ElemValue-F.Nested s.item) item rest (value.rolls-Nested s.item ∙ s.is)
      (sym (eqb-true tag ANNOTATION t), s.spells)
  to_behind tag item rest (inr (a, inr (b, inr (c, inl (t, s))))) =
      of_layer tag (ElemValue-F.List s.item) item rest (value.rolls-List s.item ∙ s.is)
      (sym (eqb-true tag LIST t), s.spells)
  to_behind tag item rest (inr (a, inr (b, inr (c, inr (d, s))))) =
      of_layer tag (ElemValue-F.Const tag s.item) item rest (value.rolls-Const tag s.item ∙ s.is)
      (refl, s.spells)

  -- a constant has none of the tags of other values
  other_tag : (tag other : ℕ) (constant : Value) (rest : List ℕ)
      → element_constant other ≡ None
      → Numbered (NamesConstant (NamesText pool) pool (element_constant tag)) constant rest
      → eqb tag other ≡ false
  other_tag tag other constant rest none s = by (eqb tag other) refl
    where
      by : (b : Bool) → eqb tag other ≡ b → eqb tag other ≡ false
      by false is = is
      by true is =
          absurd
          (subst (λ k. NamesConstant (NamesText pool) pool k s.number constant)
          (ap element_constant (eqb-true tag other is) ∙ none) s.named)

  from_layer : (tag : ℕ) (layer : Layer) (item : ElemValue) (rest : List ℕ)
      → roll-ElemValue layer ≡ item
      → LayerBehind tag layer rest
      → Parts tag item rest
  from_layer tag (ElemValue-F.Enumerated descriptor name) item rest is s =
      subst (λ tag. Parts tag item rest) s.0 (inl (
        refl,
        record {
          item = descriptor;
          front = s.1.front;
          rest = s.1.rest;
          whole = s.1.whole;
          first = s.1.first;
          second = record {
            item = name;
            is = sym (value.rolls-Enumerated descriptor name) ∙ is;
            spells = s.1.second;
          };
        },
      ))
  from_layer tag (ElemValue-F.ClassOf descriptor) item rest is s =
      subst (λ tag. Parts tag item rest) s.0 (inr (
        refl,
        inl (
          refl,
          record {
            item = descriptor;
            is = sym (value.rolls-ClassOf descriptor) ∙ is;
            spells = s.1;
          },
        ),
      ))
  from_layer tag (ElemValue-F.Nested annotation) item rest is s =
      subst (λ tag. Parts tag item rest) s.0 (inr (
        refl,
        inr (
          refl,
          inl (
            refl,
            record {
              item = annotation;
              is = sym (value.rolls-Nested annotation) ∙ is;
              spells = s.1;
            },
          ),
        ),
      ))
  from_layer tag (ElemValue-F.List values) item rest is s =
      subst (λ tag. Parts tag item rest) s.0
      (inr (
        refl,
        inr (
          refl,
          inr (
            refl,
            inl (
              refl,
              record {
                item = values;
                is = sym (value.rolls-List values) ∙ is;
                spells = s.1;
              },
            ),
          ),
        ),
      ))
  from_layer tag (ElemValue-F.Const own constant) item rest is s =
      subst (λ tag. Parts tag item rest) s.0
      (inr (
        other_tag own ENUMERATED constant rest refl s.1,
        inr (
          other_tag own CLASS constant rest refl s.1,
          inr (
            other_tag own ANNOTATION constant rest refl s.1,
            inr (
              other_tag own LIST constant rest refl s.1,
              record {
                item = constant;
                is = sym (value.rolls-Const own constant) ∙ is;
                spells = s.1;
              },
            ),
          ),
        ),
      ))

  reads_behind : (tag at : ℕ)
      → Weighs 0 value_texts (behind_tag (rows_of pool) read tag at) (Behind tag)
  unfolding behind_tag
  reads_behind tag at =
      reads_as (Behind tag)
      (reads_if (eqb tag ENUMERATED) reads_enumerated
      (reads_if (eqb tag CLASS) reads_class_value
      (reads_if (eqb tag ANNOTATION) reads_nested
      (reads_if (eqb tag LIST) reads_list
      (reads_constant_value tag at (element_constant tag))))))
      (to_behind tag)
      (λ item rest s. from_layer tag (out-ElemValue item) item rest (roll-out-ElemValue item) s)

  -- ---- a value

  abbrev ValueParts : ElemValue → List ℕ → Type 0
  ValueParts = Then ByteSpells Behind

  -- a tag, and what stands behind it
  retag : {Rest : List ℕ → Type 0} (own tag : ℕ) (front rest text : List ℕ)
      → own ≡ tag
      → text ≡ front ++ rest
      → front ≡ tag ∷ []
      → Rest rest
      → Tagged own Rest text
  retag own tag front rest text is whole front_is s = record {
    rest = rest;
    whole = whole ∙ ap (λ (t : List ℕ). t ++ rest) front_is
        ∙ ap (λ (t : ℕ). t ∷ rest) (sym is);
    spelled = s;
  }

  to_value : (layer : Layer) (tag : ℕ) (front rest text : List ℕ)
      → text ≡ front ++ rest
      → front ≡ tag ∷ []
      → LayerBehind tag layer rest
      → LayerSpells pool ValueIs layer text
  to_value (ElemValue-F.Const own constant) tag front rest text whole front_is s =
      retag own tag front rest text s.0 whole front_is s.1
  to_value (ElemValue-F.Enumerated descriptor name) tag front rest text whole front_is s =
      retag ENUMERATED tag front rest text s.0 whole front_is s.1
  to_value (ElemValue-F.ClassOf descriptor) tag front rest text whole front_is s =
      retag CLASS tag front rest text s.0 whole front_is s.1
  to_value (ElemValue-F.Nested annotation) tag front rest text whole front_is s =
      retag ANNOTATION tag front rest text s.0 whole front_is s.1
  to_value (ElemValue-F.List values) tag front rest text whole front_is s =
      retag LIST tag front rest text s.0 whole front_is s.1

  untag : {Rest : List ℕ → Type 0} (item : ElemValue) (tag : ℕ) (text : List ℕ)
      → (s : Tagged tag Rest text)
      → Behind tag item s.rest
      → ValueParts item text
  untag item tag text s behind = record {
    item = tag;
    front = tag ∷ [];
    rest = s.rest;
    whole = s.whole;
    first = refl;
    second = behind;
  }

  from_value : (layer : Layer) (item : ElemValue) (text : List ℕ)
      → layer ≡ out-ElemValue item
      → LayerSpells pool ValueIs layer text
      → ValueParts item text
  from_value (ElemValue-F.Const own constant) item text is s =
      untag item own text s (subst (λ l. LayerBehind own l s.rest) is (refl, s.spelled))
  from_value (ElemValue-F.Enumerated descriptor name) item text is s =
      untag item ENUMERATED text s
      (subst (λ l. LayerBehind ENUMERATED l s.rest) is (refl, s.spelled))
  from_value (ElemValue-F.ClassOf descriptor) item text is s =
      untag item CLASS text s (subst (λ l. LayerBehind CLASS l s.rest) is (refl, s.spelled))
  from_value (ElemValue-F.Nested annotation) item text is s =
      untag item ANNOTATION text s
      (subst (λ l. LayerBehind ANNOTATION l s.rest) is (refl, s.spelled))
  from_value (ElemValue-F.List values) item text is s =
      untag item LIST text s (subst (λ l. LayerBehind LIST l s.rest) is (refl, s.spelled))

  abbrev OneMore : ElemValue → List ℕ → Type 0
  OneMore item text = LayerSpells pool ValueIs (out-ElemValue item) text

  -- a value in which values are read so
  reads_tagged : Weighs 0 value_texts
      (λ p. number_at w8 p >>= λ tag. behind_tag (rows_of pool) read tag.0 (offset p) tag.1)
      OneMore
  reads_tagged =
      reads_as OneMore
      (reads_then (λ begun tag rest. behind_tag (rows_of pool) read tag (offset begun) rest)
      reads_byte
      (λ begun tag. reads_behind tag (offset begun)))
      (λ item text s.
      to_value (out-ElemValue item) s.item s.front s.rest text s.whole s.first s.second)
      (λ item text s. from_value (out-ElemValue item) item text refl s)

-- ---- by the depth that is left

never : (test : Bool) (item : ElemValue) (text : List ℕ) → Either test Never Never item text → ⊥
never test item text (inl s) = s.1
never test item text (inr s) = s.1

none_left : Weighs 0 value_texts
    (λ p. number_at w8 p >>= λ tag.
    cond (is_tag tag.0) (Err (told p F12)) (Err (told p F7)))
    (λ (item : ElemValue) text. ⊥)
none_left =
    reads_as (λ (item : ElemValue) text. ⊥)
    (reads_then
    (λ begun tag rest. cond (is_tag tag) (Err (told begun F12)) (Err (told begun F7)))
    reads_byte
    (λ begun tag.
    reads_if (is_tag tag) (reads_never (λ p. told begun F12))
    (reads_never (λ p. told begun F7))))
    (λ item text s. never (is_tag s.item) item s.rest s.second)
    (λ item text s. absurd s)

pub reads_value : (pool : List Entry) (left : ℕ)
    → Weighs 0 value_texts (value_at (rows_of pool) left) (ValueSpells pool left)
unfolding value_at
reads_value pool zero = none_left
reads_value pool (suc left) = reads_tagged pool (reads_value pool left)

pub reads_top_value : (pool : List Entry)
    → Weighs 0 value_texts (top_value_at (rows_of pool)) (TopValueSpells pool)
reads_top_value pool = reads_value pool DEEPEST_VALUE

pub reads_annotations : (pool : List Entry)
    → Weighs 0 (total annotation_texts) (annotations_at (rows_of pool)) (AnnotationsSpell pool)
reads_annotations pool = weighs_counted_at (reads_annotation pool (reads_top_value pool))
