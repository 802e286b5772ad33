-- Attributes: what is read of a list of them is what is spelled there.
use Rattle.std.proofs.Common.{◌≡◌, ℕ, ◌^◌, ◌<◌, Bool, true, false, true≢false, List, []}
use Rattle.std.proofs.Common.{◌∷◌, length}
use Rattle.std.proofs.Common.{map, Option, Some, None, Ok, Err, refl, sym, ap, subst}
use Rattle.std.proofs.Common.{◌∙◌, ◌+◌, arith}
use Rattle.std.specs.Prelude.{is_some}
use Rattle.std.specs.List.{cons_option}
use Rattle.std.specs.Int.{w16, w32, to_be_bytes}
use Rattle.java_names.specs.Names.{is_text}
use Rattle.class_desc.specs.declared.attribute.Attr.{Attr, out-Attr, roll-Attr, out-roll-Attr}
use Rattle.class_desc.specs.declared.attribute.Attr.{roll-out-Attr}
use Rattle.class_desc.specs.declared.attribute.Attr.TheOpen.{Attr-F, ComponentDesc-F}
use Rattle.class_desc.specs.declared.attribute.Attr.TheVariants as attr
use Rattle.class_desc.specs.declared.attribute.ComponentDesc.{ComponentDesc, out-ComponentDesc}
use Rattle.class_desc.specs.declared.attribute.ComponentDesc.{roll-ComponentDesc}
use Rattle.class_desc.specs.declared.attribute.ComponentDesc.{out-roll-ComponentDesc}
use Rattle.class_desc.specs.declared.attribute.ComponentDesc.{roll-out-ComponentDesc}
use Rattle.class_desc.specs.declared.attribute_kind.AttributeKind.{AttributeKind}
use Rattle.class_desc.specs.declared.attribute_kind.AttributeKind.TheVariants as kind
use Rattle.class_desc.specs.declared.place.Place.{Place}
use Rattle.class_desc.specs.declared.place.Place.TheVariants as place
use Rattle.class_desc.specs.Attributes.{TopValueSpells, AnnotationsSpell, ClassesSpell}
use Rattle.class_desc.specs.Attributes.{InnerClassesSpell, ParameterSpells, BodySpells}
use Rattle.class_desc.specs.Attributes.{NamesAttribute, AttributeSpells, AttributesOver}
use Rattle.class_desc.specs.Attributes.{ComponentSpells, AttributesSpell}
use Rattle.class_desc.specs.Constants.{field_constant}
use Rattle.class_desc.specs.Forms.{IsAnyText, IsFieldName, IsFieldDescriptor, IsSignatureText}
use Rattle.class_desc.specs.Items.{NamesTextOf, NamesString, NamesConstant}
use Rattle.class_desc.specs.Items.{Numbered, Both, Within, CountedSpells, ForParametersSpell}
use Rattle.class_desc.specs.Places.{kind_name, layer_kind, attribute_kind, attribute_name}
use Rattle.class_desc.specs.Places.{kept_kind, keeps}
use Rattle.class_desc.specs.Pool.{Entry}
use Rattle.class_desc.specs.Texts.{total, body_texts, attribute_texts, component_texts}
use Rattle.class_desc.proofs.Texts.{attribute_made, component_made}
use Rattle.pool_reader.specs.declared.fault.ClassKind.TheVariants.{F5}
use Rattle.pool_reader.specs.Reading.{◌>>=◌, Position, offset, Read, told, piece_at}
use Rattle.pool_reader.specs.Reading.{within}
use Rattle.pool_reader.specs.Pooled.{rows_of}
use Rattle.pool_reader.proofs.Bodies.{WithinSpells, weighs_within}
use Rattle.pool_reader.proofs.Laws.{Weighs, Reads, reads_as, Given, weighs_given, Then, joined}
use Rattle.pool_reader.proofs.Laws.{weighs_then, reads_then, Made, weighs_made, reads_made}
use Rattle.pool_reader.proofs.Laws.{reads_checked, reads_never}
use Rattle.pool_reader.proofs.Numbers.{NumberSpells, reads_u16, reads_u32, PieceSpells}
use Rattle.pool_reader.proofs.Numbers.{reads_piece}
use Rattle.attribute_reader.specs.declared.constants.ConstantPlace.TheVariants as constant
use Rattle.attribute_reader.specs.declared.forms.Form.TheVariants as form
use Rattle.attribute_reader.specs.Attributes.{unseen, record_at, passed_body_at, body_of}
use Rattle.attribute_reader.specs.Attributes.{behind_name, attribute_at, attributes_over}
use Rattle.attribute_reader.specs.Attributes.{component_at, attributes_at}
use Rattle.attribute_reader.specs.Forms.{form_fault}
use Rattle.attribute_reader.specs.Items.{growing}
use Rattle.attribute_reader.specs.Values.{field_descriptor_at}
use Rattle.attribute_reader.proofs.Adding.{Adding, to_all, from_all}
use Rattle.attribute_reader.proofs.BodyLaws.{IsUnseen, unseen_is, is_unseen, reads_parameter}
use Rattle.attribute_reader.proofs.BodyLaws.{reads_inner_classes}
use Rattle.attribute_reader.proofs.ConstantLaws.{weighs_constant}
use Rattle.attribute_reader.proofs.Distinct.{AreNew, distinct_new, new_distinct, other_text}
use Rattle.attribute_reader.proofs.FormLaws.{field_name_tells, signature_tells}
use Rattle.attribute_reader.proofs.ItemLaws.{weighs_text, weighs_field_descriptor, weighs_class}
use Rattle.attribute_reader.proofs.ItemLaws.{reads_attribute_name}
use Rattle.attribute_reader.proofs.KindNames.{kept_name, kept_own, not_kept}
use Rattle.attribute_reader.proofs.ListLaws.{weighs_counted_at, weighs_for_parameters, Grown}
use Rattle.attribute_reader.proofs.ListLaws.{weighs_growing}
use Rattle.attribute_reader.proofs.ValueLaws.{reads_top_value, reads_annotations}

abbrev Layer : Type 0
Layer = Attr-F Attr ComponentDesc

name_of : (a : Attr) → attribute_name a ≡ kind_name (attribute_kind a)
unfolding attribute_name
name_of a = refl

-- ---- an attribute that is passed over

abbrev Passed : List ℕ → Type 0
Passed = Within (λ body. Unit {0})

abbrev PassedParts : Unit {0} → List ℕ → Type 0
PassedParts = Then (NumberSpells w32 (2 ^ 32)) (λ count. Made (λ body. tt) (PieceSpells count))

to_passed : (none : Unit {0}) (text : List ℕ) → PassedParts none text → Passed text
to_passed none text s =
    let body = s.second.item in
    let len = s.second.spells.0 in
    record {
      body = body;
      fits = subst (λ (n : ℕ). n < 2 ^ 32) (sym len) s.first.0;
      whole = joined s (s.first.1 ∙ ap (to_be_bytes w32) (sym len)) s.second.spells.1;
      spelled = tt;
    }

from_passed : (none : Unit {0}) (text : List ℕ) → Passed text → PassedParts none text
from_passed none text s = record {
  item = length s.body;
  front = to_be_bytes w32 (length s.body);
  rest = s.body;
  whole = s.whole;
  first = (s.fits, refl);
  second = record { item = s.body; is = refl; spells = (refl, refl) };
}

reads_passed : Reads passed_body_at (λ none. Passed)
unfolding passed_body_at
reads_passed =
    reads_as (λ none. Passed)
    (reads_then (λ begun count rest. piece_at count rest >>= λ body. Ok (tt, body.1)) reads_u32
    (λ begun count. reads_made (λ body. tt) (reads_piece count)))
    to_passed
    from_passed

-- ---- the bodies

module _ (pool : List Entry) {component : Position → Read ComponentDesc}
    {ComponentIs : ComponentDesc → List ℕ → Type 0}
    (law : Weighs 0 component_texts component ComponentIs)
    (here : Place) (descriptor : List ℕ) where
  -- no other place keeps a Record
  reads_record : (here : Place)
      → keeps here (kind_name kind.Record) ≡ true
      → Weighs 0 (total component_texts) (record_at component here) (CountedSpells ComponentIs)
  unfolding record_at
  reads_record place.Class kept = weighs_counted_at law
  reads_record place.Field kept = absurd (true≢false (sym kept))
  reads_record place.Method kept = absurd (true≢false (sym kept))
  reads_record place.Component kept = absurd (true≢false (sym kept))

  -- an attribute of this kind, as its body is read
  abbrev OfKind : AttributeKind → Attr → List ℕ → Type 0
  OfKind kind.ConstantValue =
      Made attr.ConstantValue
      (Numbered (NamesConstant (NamesString pool) pool (field_constant descriptor)))
  OfKind kind.Exceptions = Made attr.Exceptions (ClassesSpell pool)
  OfKind kind.Signature = Made attr.Signature (Numbered (NamesTextOf pool (IsSignatureText here)))
  OfKind kind.Deprecated = Given attr.Deprecated
  OfKind kind.Synthetic = Given attr.Synthetic
  OfKind kind.InnerClasses = Made attr.InnerClasses (InnerClassesSpell pool)
  OfKind kind.Record = Made attr.Components (CountedSpells ComponentIs)
  OfKind kind.PermittedSubclasses = Made attr.PermittedSubclasses (ClassesSpell pool)
  OfKind kind.AnnotationDefault = Made attr.AnnotationDefault (TopValueSpells pool)
  OfKind kind.MethodParameters =
      Made attr.MethodParameters
      (ForParametersSpell (ParameterSpells pool))
  OfKind kind.VisibleAnnotations = Made attr.VisibleAnns (AnnotationsSpell pool)
  OfKind kind.InvisibleAnnotations = Made attr.InvisibleAnns (AnnotationsSpell pool)
  OfKind kind.VisibleParameterAnnotations =
      Made attr.VisibleParamAnns
      (ForParametersSpell (AnnotationsSpell pool))
  OfKind kind.InvisibleParameterAnnotations =
      Made attr.InvisibleParamAnns
      (ForParametersSpell (AnnotationsSpell pool))

  abbrev Body : Layer → List ℕ → Type 0
  Body = BodySpells pool here descriptor ComponentIs

  -- an attribute of this kind, as the grammar has its body
  pub record BodyIs (of : AttributeKind) (item : Attr) (text : List ℕ) : Type 0 where
    pub kind_is : attribute_kind item ≡ of
    pub spelled : Body (out-Attr item) text

  of_layer : (layer : Layer) (item : Attr) (text : List ℕ)
      → roll-Attr layer ≡ item
      → Body layer text
      → BodyIs (layer_kind layer) item text
  of_layer layer item text is s =
      let out_is : out-Attr item ≡ layer = ap out-Attr (sym is) ∙ out-roll-Attr layer in
      record {
        kind_is = ap layer_kind out_is;
        spelled = subst (λ l. Body l text) (sym out_is) s;
      }

  to_body : (of : AttributeKind) (item : Attr) (text : List ℕ) → OfKind of item text
      → BodyIs of item text
  to_body kind.ConstantValue item text s =
      of_layer (Attr-F.ConstantValue s.item) item text
      (attr.rolls-ConstantValue s.item ∙ s.is) s.spells
  to_body kind.Exceptions item text s =
      of_layer (Attr-F.Exceptions s.item) item text (attr.rolls-Exceptions s.item ∙ s.is) s.spells
  to_body kind.Signature item text s =
      of_layer (Attr-F.Signature s.item) item text (attr.rolls-Signature s.item ∙ s.is) s.spells
  to_body kind.Deprecated item text s =
      of_layer Attr-F.Deprecated item text (attr.rolls-Deprecated ∙ s.0) s.1
  to_body kind.Synthetic item text s =
      of_layer Attr-F.Synthetic item text (attr.rolls-Synthetic ∙ s.0) s.1
  to_body kind.InnerClasses item text s =
      of_layer (Attr-F.InnerClasses s.item) item text
      (attr.rolls-InnerClasses s.item ∙ s.is) s.spells
  to_body kind.Record item text s =
      of_layer (Attr-F.Components s.item) item text (attr.rolls-Components s.item ∙ s.is) s.spells
  to_body kind.PermittedSubclasses item text s =
      of_layer (Attr-F.PermittedSubclasses s.item) item text
      (attr.rolls-PermittedSubclasses s.item ∙ s.is) s.spells
  to_body kind.AnnotationDefault item text s =
      of_layer (Attr-F.AnnotationDefault s.item) item text
      (attr.rolls-AnnotationDefault s.item ∙ s.is) s.spells
  to_body kind.MethodParameters item text s =
      of_layer (Attr-F.MethodParameters s.item) item text
      (attr.rolls-MethodParameters s.item ∙ s.is) s.spells
  to_body kind.VisibleAnnotations item text s =
      of_layer (Attr-F.VisibleAnns s.item) item text
      (attr.rolls-VisibleAnns s.item ∙ s.is) s.spells
  to_body kind.InvisibleAnnotations item text s =
      of_layer (Attr-F.InvisibleAnns s.item) item text
      (attr.rolls-InvisibleAnns s.item ∙ s.is) s.spells
  to_body kind.VisibleParameterAnnotations item text s =
      of_layer (Attr-F.VisibleParamAnns s.item) item text
      (attr.rolls-VisibleParamAnns s.item ∙ s.is) s.spells
  to_body kind.InvisibleParameterAnnotations item text s =
      of_layer (Attr-F.InvisibleParamAnns s.item) item text
      (attr.rolls-InvisibleParamAnns s.item ∙ s.is) s.spells

  from_layer : (layer : Layer) (item : Attr) (text : List ℕ)
      → roll-Attr layer ≡ item
      → Body layer text
      → OfKind (layer_kind layer) item text
  from_layer (Attr-F.ConstantValue constant) item text is s =
      record { item = constant; is = sym (attr.rolls-ConstantValue constant) ∙ is; spells = s }
  from_layer (Attr-F.Exceptions names) item text is s =
      record { item = names; is = sym (attr.rolls-Exceptions names) ∙ is; spells = s }
  from_layer (Attr-F.Signature signature) item text is s =
      record { item = signature; is = sym (attr.rolls-Signature signature) ∙ is; spells = s }
  from_layer Attr-F.Deprecated item text is s = (sym attr.rolls-Deprecated ∙ is, s)
  from_layer Attr-F.Synthetic item text is s = (sym attr.rolls-Synthetic ∙ is, s)
  from_layer (Attr-F.InnerClasses entries) item text is s =
      record { item = entries; is = sym (attr.rolls-InnerClasses entries) ∙ is; spells = s }
  from_layer (Attr-F.Components components) item text is s =
      record { item = components; is = sym (attr.rolls-Components components) ∙ is; spells = s }
  from_layer (Attr-F.PermittedSubclasses names) item text is s =
      record { item = names; is = sym (attr.rolls-PermittedSubclasses names) ∙ is; spells = s }
  from_layer (Attr-F.AnnotationDefault value) item text is s =
      record { item = value; is = sym (attr.rolls-AnnotationDefault value) ∙ is; spells = s }
  from_layer (Attr-F.MethodParameters entries) item text is s =
      record { item = entries; is = sym (attr.rolls-MethodParameters entries) ∙ is; spells = s }
  from_layer (Attr-F.VisibleAnns annotations) item text is s =
      record { item = annotations; is = sym (attr.rolls-VisibleAnns annotations) ∙ is; spells = s }
  from_layer (Attr-F.InvisibleAnns annotations) item text is s =
      record {
        item = annotations;
        is = sym (attr.rolls-InvisibleAnns annotations) ∙ is;
        spells = s;
      }
  from_layer (Attr-F.VisibleParamAnns lists) item text is s =
      record { item = lists; is = sym (attr.rolls-VisibleParamAnns lists) ∙ is; spells = s }
  from_layer (Attr-F.InvisibleParamAnns lists) item text is s =
      record { item = lists; is = sym (attr.rolls-InvisibleParamAnns lists) ∙ is; spells = s }

  from_body : (of : AttributeKind) (item : Attr) (text : List ℕ) → BodyIs of item text
      → OfKind of item text
  from_body of item text s =
      subst (λ k. OfKind k item text) s.kind_is
      (from_layer (out-Attr item) item text (roll-out-Attr item) s.spelled)

  -- what an attribute made of this layer weighs
  weight_of : (layer : Layer) (item : Attr) → roll-Attr layer ≡ item
      → 0 + body_texts component_texts layer ≡ attribute_texts item
  weight_of layer item is = omega (arith, attribute_made layer item is)

  reads_of_kind : (of : AttributeKind)
      → keeps here (kind_name of) ≡ true
      → Weighs 0 attribute_texts (body_of (rows_of pool) component here descriptor of) (OfKind of)
  reads_of_kind kind.ConstantValue kept =
      weighs_made attr.ConstantValue
      (λ constant. weight_of (Attr-F.ConstantValue constant) (attr.ConstantValue constant)
      (attr.rolls-ConstantValue constant))
      (weighs_constant pool constant.Field (field_constant descriptor))
  reads_of_kind kind.Exceptions kept =
      weighs_made attr.Exceptions
      (λ names. weight_of (Attr-F.Exceptions names) (attr.Exceptions names)
      (attr.rolls-Exceptions names))
      (weighs_counted_at (weighs_class pool))
  reads_of_kind kind.Signature kept =
      weighs_made attr.Signature
      (λ text. weight_of (Attr-F.Signature text) (attr.Signature text)
      (attr.rolls-Signature text))
      (weighs_text pool (form_fault (form.Signature here)) (IsSignatureText here)
      (signature_tells here))
  reads_of_kind kind.Deprecated kept =
      weighs_given attr.Deprecated
      (sym (attribute_made Attr-F.Deprecated attr.Deprecated attr.rolls-Deprecated))
  reads_of_kind kind.Synthetic kept =
      weighs_given attr.Synthetic
      (sym (attribute_made Attr-F.Synthetic attr.Synthetic attr.rolls-Synthetic))
  reads_of_kind kind.InnerClasses kept =
      weighs_made attr.InnerClasses
      (λ entries. weight_of (Attr-F.InnerClasses entries) (attr.InnerClasses entries)
      (attr.rolls-InnerClasses entries))
      (reads_inner_classes pool)
  reads_of_kind kind.Record kept =
      weighs_made attr.Components
      (λ components. weight_of (Attr-F.Components components) (attr.Components components)
      (attr.rolls-Components components))
      (reads_record here kept)
  reads_of_kind kind.PermittedSubclasses kept =
      weighs_made attr.PermittedSubclasses
      (λ names. weight_of (Attr-F.PermittedSubclasses names) (attr.PermittedSubclasses names)
      (attr.rolls-PermittedSubclasses names))
      (weighs_counted_at (weighs_class pool))
  reads_of_kind kind.AnnotationDefault kept =
      weighs_made attr.AnnotationDefault
      (λ value. weight_of (Attr-F.AnnotationDefault value) (attr.AnnotationDefault value)
      (attr.rolls-AnnotationDefault value))
      (reads_top_value pool)
  reads_of_kind kind.MethodParameters kept =
      weighs_made attr.MethodParameters
      (λ entries. weight_of (Attr-F.MethodParameters entries) (attr.MethodParameters entries)
      (attr.rolls-MethodParameters entries))
      (weighs_for_parameters (reads_parameter pool))
  reads_of_kind kind.VisibleAnnotations kept =
      weighs_made attr.VisibleAnns
      (λ annotations. weight_of (Attr-F.VisibleAnns annotations) (attr.VisibleAnns annotations)
      (attr.rolls-VisibleAnns annotations))
      (reads_annotations pool)
  reads_of_kind kind.InvisibleAnnotations kept =
      weighs_made attr.InvisibleAnns
      (λ annotations. weight_of (Attr-F.InvisibleAnns annotations) (attr.InvisibleAnns annotations)
      (attr.rolls-InvisibleAnns annotations))
      (reads_annotations pool)
  reads_of_kind kind.VisibleParameterAnnotations kept =
      weighs_made attr.VisibleParamAnns
      (λ lists. weight_of (Attr-F.VisibleParamAnns lists) (attr.VisibleParamAnns lists)
      (attr.rolls-VisibleParamAnns lists))
      (weighs_for_parameters (reads_annotations pool))
  reads_of_kind kind.InvisibleParameterAnnotations kept =
      weighs_made attr.InvisibleParamAnns
      (λ lists. weight_of (Attr-F.InvisibleParamAnns lists) (attr.InvisibleParamAnns lists)
      (attr.rolls-InvisibleParamAnns lists))
      (weighs_for_parameters (reads_annotations pool))

  reads_body : (of : AttributeKind)
      → keeps here (kind_name of) ≡ true
      → Weighs 0 attribute_texts (body_of (rows_of pool) component here descriptor of) (BodyIs of)
  reads_body of kept =
      reads_as (BodyIs of) (reads_of_kind of kept) (to_body of) (from_body of)

  -- ---- behind a name

  abbrev Name : List ℕ → List ℕ → Type 0
  Name = Numbered (NamesTextOf pool IsAnyText)

  -- what is added behind this name
  abbrev Behind : List (List ℕ) → List ℕ → Option AttributeKind → List Attr → List ℕ → Type 0
  Behind seen name None more text = Made (λ (none : Unit {0}). []) (λ none. Passed) more text
  Behind seen name (Some of) more text =
      IsUnseen seen name × Made (λ a. a ∷ []) (WithinSpells (BodyIs of)) more text

  reads_kept : (seen : List (List ℕ)) (at : ℕ) (name : List ℕ) (of : AttributeKind)
      → keeps here (kind_name of) ≡ true
      → Weighs 0 (total attribute_texts)
      (behind_name (rows_of pool) component here descriptor seen at name (Some of))
      (Behind seen name (Some of))
  reads_kept seen at name of kept =
      reads_as (Behind seen name (Some of))
      (reads_checked (unseen at name seen)
      (λ new p. within (body_of (rows_of pool) component here descriptor of) p >>= λ a.
      Ok (a.0 ∷ [], a.1))
      (λ new. weighs_made (λ a. a ∷ []) (λ a. omega arith) (weighs_within (reads_body of kept))))
      (λ more text c. (unseen_is at name seen c.item c.passed, c.second))
      (λ more text s. record { item = tt; passed = is_unseen at name seen s.0; second = s.1 })

  reads_behind : (seen : List (List ℕ)) (at : ℕ) (name : List ℕ) (o : Option AttributeKind)
      → kept_kind here name ≡ o
      → Weighs 0 (total attribute_texts)
      (behind_name (rows_of pool) component here descriptor seen at name o)
      (Behind seen name o)
  reads_behind seen at name None is = weighs_made (λ none. []) (λ none. refl) reads_passed
  reads_behind seen at name (Some of) is =
      reads_kept seen at name of
      (ap (keeps here) (kept_name here name of is) ∙ ap is_some is)

  -- ---- an attribute

  abbrev Attribute : Option Attr → List ℕ → Type 0
  Attribute = AttributeSpells pool here descriptor ComponentIs

  abbrev itself : Option Attr → Option Attr
  itself item = item

  abbrev Adds : List Attr → List Attr → List ℕ → Type 0
  Adds = Adding is_text other_text itself attribute_name Attribute

  abbrev Parts : List Attr → List Attr → List ℕ → Type 0
  Parts before =
      Then Name
      (λ name. Behind (map attribute_name before) name (kept_kind here name))

  -- a name that is kept here, or isn't
  as_kept : (name : List ℕ) (text : List ℕ) (kept : Bool)
      → keeps here name ≡ kept
      → Name name text
      → Numbered (NamesAttribute pool here kept) name text
  as_kept name text kept is s = record {
    number = s.number;
    fits = s.fits;
    named = record {
      fits = s.named.fits;
      named = s.named.named;
      modified = s.named.modified;
      form = is;
    };
    is = s.is;
  }

  as_name : (name : List ℕ) (text : List ℕ) (kept : Bool)
      → Numbered (NamesAttribute pool here kept) name text
      → Name name text
  as_name name text kept s = record {
    number = s.number;
    fits = s.fits;
    named = record {
      fits = s.named.fits;
      named = s.named.named;
      modified = s.named.modified;
      form = tt;
    };
    is = s.is;
  }

  to_attribute : (before more : List Attr) (text : List ℕ) → Parts before more text
      → Adds before more text
  to_attribute before more text s = by (kept_kind here s.item) refl s.second
    where
      by : (o : Option AttributeKind)
          → kept_kind here s.item ≡ o
          → Behind (map attribute_name before) s.item o more s.rest
          → Adds before more text
      by None is b =
          subst (λ (m : List Attr). Adds before m text) b.is (record {
            item = None;
            is = refl;
            new = tt;
            spelled = (
              s.item,
              record {
                front = s.front;
                rest = s.rest;
                whole = s.whole;
                first = as_kept s.item s.front false (ap is_some is) s.first;
                second = b.spells;
              },
            );
          })
      by (Some of) is b =
          let a = b.1.item in
          let w = b.1.spells in
          let name_is : s.item ≡ attribute_name a =
          sym (name_of a ∙ ap kind_name w.spelled.kind_is ∙ kept_name here s.item of is) in
          let kept = as_kept s.item s.front true (ap is_some is) s.first in
          subst (λ (m : List Attr). Adds before m text) b.1.is (record {
            item = Some a;
            is = refl;
            new = (subst (IsUnseen (map attribute_name before)) name_is b.0, tt);
            spelled = record {
              front = s.front;
              rest = s.rest;
              whole = s.whole;
              first = subst (λ (n : List ℕ).
                  Numbered (NamesAttribute pool here true) n s.front) name_is kept;
              second = record {
                body = w.body;
                fits = w.fits;
                whole = w.whole;
                spelled = w.spelled.spelled;
              };
            };
          })

  from_attribute : (before more : List Attr) (text : List ℕ) → Adds before more text
      → Parts before more text
  from_attribute before more text s =
      subst (λ (m : List Attr). Parts before m text) s.is (by s.item fresh s.spelled)
    where
      fresh : AreNew is_text other_text (map attribute_name before)
          (map attribute_name (cons_option s.item []))
      fresh = subst (λ (m : List Attr).
          AreNew is_text other_text (map attribute_name before) (map attribute_name m))
          (sym s.is) s.new

      by : (o : Option Attr)
          → AreNew is_text other_text (map attribute_name before)
          (map attribute_name (cons_option o []))
          → Attribute o text
          → Parts before (cons_option o []) text
      by None new a = record {
        item = a.0;
        front = a.1.front;
        rest = a.1.rest;
        whole = a.1.whole;
        first = as_name a.0 a.1.front false a.1.first;
        second = subst (λ o. Behind (map attribute_name before) a.0 o [] a.1.rest)
            (sym (not_kept here a.0 a.1.first.named.form))
            (record { item = tt; is = refl; spells = a.1.second });
      }
      by (Some item) new a =
          let name = attribute_name item in
          record {
            item = name;
            front = a.front;
            rest = a.rest;
            whole = a.whole;
            first = as_name name a.front true a.first;
            second = subst (λ o. Behind (map attribute_name before) name o (item ∷ []) a.rest)
                (sym (ap (kept_kind here) (name_of item)
                ∙ kept_own here (attribute_kind item)
                (ap (keeps here) (sym (name_of item)) ∙ a.first.named.form))) (
                  new.0,
                  record {
                    item = item;
                    is = refl;
                    spells = record {
                      body = a.second.body;
                      fits = a.second.fits;
                      whole = a.second.whole;
                      spelled = record { kind_is = refl; spelled = a.second.spelled };
                    };
                  },
                );
          }

  reads_attribute : (before : List Attr)
      → Weighs 0 (total attribute_texts)
      (attribute_at (rows_of pool) component here descriptor before) (Adds before)
  unfolding attribute_at
  reads_attribute before =
      reads_as (Adds before)
      (reads_then
      (λ begun name.
      behind_name (rows_of pool) component here descriptor (map attribute_name before)
      (offset begun) name (kept_kind here name))
      (reads_attribute_name pool)
      (λ begun name.
      reads_behind (map attribute_name before) (offset begun) name (kept_kind here name) refl))
      (to_attribute before)
      (from_attribute before)

  -- ---- the list

  abbrev Over : List Attr → List ℕ → Type 0
  Over = AttributesOver pool here descriptor ComponentIs

  abbrev ListParts : List Attr → List ℕ → Type 0
  ListParts = Then (NumberSpells w16 (2 ^ 16)) (λ count. Grown Adds count [])

  to_over : (kept : List Attr) (text : List ℕ) → ListParts kept text → Over kept text
  to_over kept text s =
      let a = to_all is_text other_text itself attribute_name Attribute s.item [] kept s.rest
      s.second in
      let new : AreNew is_text other_text [] (map attribute_name kept) =
      subst (λ (t : List Attr). AreNew is_text other_text [] (map attribute_name t)) a.are a.new
      in
      record {
        listed = a.items;
        spelled = record {
          rest = s.rest;
          count = subst (λ (n : ℕ). n < 2 ^ 16) (sym a.length_is) s.first.0;
          whole = joined s (s.first.1 ∙ ap (to_be_bytes w16) (sym a.length_is)) refl;
          each = a.each;
        };
        are_kept = sym a.are;
        distinct = distinct_new is_text other_text (map attribute_name kept) new;
      }

  from_over : (kept : List Attr) (text : List ℕ) → Over kept text → ListParts kept text
  from_over kept text s =
      let c = s.spelled in
      let new = new_distinct is_text other_text (map attribute_name kept) s.distinct in
      record {
        item = length s.listed;
        front = to_be_bytes w16 (length s.listed);
        rest = c.rest;
        whole = c.whole;
        first = (c.count, refl);
        second = from_all is_text other_text itself attribute_name Attribute (length s.listed) []
            kept c.rest (record {
              items = s.listed;
              length_is = refl;
              are = sym s.are_kept;
              new = subst (λ (t : List Attr).
                  AreNew is_text other_text [] (map attribute_name t)) s.are_kept new;
              each = c.each;
            });
      }

  pub reads_over : Weighs 0 (total attribute_texts)
      (attributes_over (rows_of pool) component here descriptor) Over
  unfolding attributes_over
  reads_over =
      reads_as Over
      (reads_then
      (λ begun count.
      growing (attribute_at (rows_of pool) component here descriptor) [] count)
      reads_u16
      (λ begun count. weighs_growing attribute_texts reads_attribute count []))
      to_over
      from_over

-- ---- components

no_component : Weighs 0 component_texts (λ p. Err (told p F5)) (λ (c : ComponentDesc) text. ⊥)
no_component = reads_never (λ p. told p F5)

module _ (pool : List Entry) where
  abbrev FieldName : List ℕ → List ℕ → Type 0
  FieldName = Numbered (NamesTextOf pool IsFieldName)

  abbrev Descriptor : List ℕ → List ℕ → Type 0
  Descriptor = Numbered (NamesTextOf pool IsFieldDescriptor)

  abbrev Own : List ℕ → List Attr → List ℕ → Type 0
  Own descriptor = AttributesOver pool place.Component descriptor (λ inner bytes. ⊥)

  abbrev ComponentParts : ComponentDesc → List ℕ → Type 0
  ComponentParts =
      Then FieldName (λ name.
      Then Descriptor (λ descriptor.
      Made
      (λ attrs. roll-ComponentDesc (record {
        name = name;
        descriptor = descriptor;
        attrs = attrs;
      }))
      (Own descriptor)))

  to_component : (c : ComponentDesc) (text : List ℕ) → ComponentParts c text
      → ComponentSpells pool c text
  to_component c text s =
      let d = s.second in
      let made : ComponentDesc-F Attr ComponentDesc =
      record { name = s.item; descriptor = d.item; attrs = d.second.item } in
      let is : out-ComponentDesc c ≡ made =
      ap out-ComponentDesc (sym d.second.is) ∙ out-roll-ComponentDesc made in
      subst (λ (c : ComponentDesc-F Attr ComponentDesc).
      Both (FieldName c.name) (Both (Descriptor c.descriptor) (Own c.descriptor c.attrs)) text)
      (sym is) (record {
        front = s.front;
        rest = s.rest;
        whole = s.whole;
        first = s.first;
        second = record {
          front = d.front;
          rest = d.rest;
          whole = d.whole;
          first = d.first;
          second = d.second.spells;
        };
      })

  from_component : (c : ComponentDesc) (text : List ℕ) → ComponentSpells pool c text
      → ComponentParts c text
  from_component c text s = record {
    item = (out-ComponentDesc c).name;
    front = s.front;
    rest = s.rest;
    whole = s.whole;
    first = s.first;
    second = record {
      item = (out-ComponentDesc c).descriptor;
      front = s.second.front;
      rest = s.second.rest;
      whole = s.second.whole;
      first = s.second.first;
      second = record {
        item = (out-ComponentDesc c).attrs;
        is = roll-out-ComponentDesc c;
        spells = s.second.second;
      };
    };
  }

  pub reads_component : Weighs 0 component_texts (component_at (rows_of pool))
      (ComponentSpells pool)
  unfolding component_at
  reads_component =
      reads_as (ComponentSpells pool)
      (weighs_then
      (λ begun name rest. field_descriptor_at (rows_of pool) rest >>= λ descriptor.
      attributes_over (rows_of pool) (λ q. Err (told q F5)) place.Component descriptor.0
      descriptor.1 >>= λ attrs.
      Ok (
        roll-ComponentDesc (record {
          name = name;
          descriptor = descriptor.0;
          attrs = attrs.0;
        }),
        attrs.1,
      ))
      (weighs_text pool (form_fault form.FieldName) IsFieldName field_name_tells)
      (λ begun name.
      weighs_then
      (λ begun descriptor rest.
      attributes_over (rows_of pool) (λ q. Err (told q F5)) place.Component descriptor rest >>=
      λ attrs.
      Ok (
        roll-ComponentDesc (record {
          name = name;
          descriptor = descriptor;
          attrs = attrs.0;
        }),
        attrs.1,
      ))
      (weighs_field_descriptor pool)
      (λ begun descriptor.
      weighs_made
      (λ attrs. roll-ComponentDesc (record {
        name = name;
        descriptor = descriptor;
        attrs = attrs;
      }))
      (λ attrs. omega (
        arith,
        component_made (record { name = name; descriptor = descriptor; attrs = attrs }),
      ))
      (reads_over pool no_component place.Component descriptor))))
      to_component
      from_component

-- ---- the attributes of a class, a field or a method

pub reads_of_class : (pool : List Entry) (descriptor : List ℕ)
    → Weighs 0 (total attribute_texts) (attributes_at (rows_of pool) place.Class descriptor)
    (AttributesSpell pool place.Class descriptor)
reads_of_class pool descriptor = reads_over pool (reads_component pool) place.Class descriptor

pub reads_of_field : (pool : List Entry) (descriptor : List ℕ)
    → Weighs 0 (total attribute_texts) (attributes_at (rows_of pool) place.Field descriptor)
    (AttributesSpell pool place.Field descriptor)
reads_of_field pool descriptor = reads_over pool (reads_component pool) place.Field descriptor

pub reads_of_method : (pool : List Entry) (descriptor : List ℕ)
    → Weighs 0 (total attribute_texts) (attributes_at (rows_of pool) place.Method descriptor)
    (AttributesSpell pool place.Method descriptor)
reads_of_method pool descriptor = reads_over pool (reads_component pool) place.Method descriptor
