-- Attributes and members as they are laid out (JVMS 4.5 to 4.7).
use Rattle.std.proofs.Common.{◌≡◌, ℕ, ◌+◌, ◌<◌, ◌≤◌, ◌^◌, true, arith, List, [], ◌∷◌, ◌++◌, length}
use Rattle.std.proofs.Common.{map, refl, sym, ap, subst, ◌∙◌, length-append}
use Rattle.std.specs.Prelude.{Option, Some, None}
use Rattle.std.specs.Int.{w16, to_be_bytes}
use Rattle.std.specs.List.{flat_map, filter_map, AllByRecursion}
use Rattle.std.proofs.lemmas.List.{length-map}
use Rattle.std.proofs.lemmas.List.Sums.{sum_by-cons, sum_by-append}
use Rattle.class_desc.specs.declared.annotation.AnnDesc.{AnnDesc}
use Rattle.class_desc.specs.declared.attribute.Attr.{Attr, out-Attr}
use Rattle.class_desc.specs.declared.attribute.Attr.TheOpen.{Attr-F}
use Rattle.class_desc.specs.declared.attribute.ComponentDesc.{ComponentDesc, out-ComponentDesc}
use Rattle.class_desc.specs.declared.attribute.InnerEntry.{InnerEntry}
use Rattle.class_desc.specs.declared.attribute.ParamEntry.{ParamEntry}
use Rattle.class_desc.specs.declared.place.Place.{Place}
use Rattle.class_desc.specs.declared.place.Place.TheVariants as place
use Rattle.class_desc.specs.declared.value.Value.{Value}
use Rattle.class_desc.specs.Attributes.{AnnotationsSpell, ClassesSpell, InnerSpells}
use Rattle.class_desc.specs.Attributes.{InnerClassesSpell, ParameterSpells, BodySpells}
use Rattle.class_desc.specs.Attributes.{AttributeSpells, AttributesOver, ComponentSpells}
use Rattle.class_desc.specs.Attributes.{AttributesSpell}
use Rattle.class_desc.specs.ClassFile.{MemberSpells}
use Rattle.class_desc.specs.Constants.{field_constant}
use Rattle.class_desc.specs.Forms.{IsAnyText, IsFieldName, IsFieldDescriptor, IsSignatureText}
use Rattle.class_desc.specs.Items.{NamesClassOf, NamesString, NamesTextOf, NamesConstant}
use Rattle.class_desc.specs.Items.{Numbered, Both, EachSpells}
use Rattle.class_desc.specs.Items.{ForParametersSpell}
use Rattle.class_desc.specs.Places.{keeps, attribute_name}
use Rattle.class_desc.specs.Pool.{Entry, entry_bytes, EntryFits}
use Rattle.class_desc.specs.Layout.{TextNeed, ClassNeed, StringNeed, number_in, EntryNumber, Flags}
use Rattle.class_desc.specs.Layout.{Count, text_item, class_item, class_list, constant_need}
use Rattle.class_desc.specs.Layout.{counted, for_parameters, item_size, size, inner_class_items}
use Rattle.class_desc.specs.Layout.{parameter_items, annotation_list, layer_body, attribute_items}
use Rattle.class_desc.specs.Layout.{component_items, member_items}
use Rattle.class_writer.specs.Bodies.{body_items}
use Rattle.class_writer.proofs.AttributeLayers.{attribute_apart, component_parts}
use Rattle.class_writer.proofs.Entries.{IsByte}
use Rattle.class_writer.proofs.Held.{bytes_over}
use Rattle.class_writer.proofs.Laid.{Laid, entry_laid, or_zero_laid, flags_laid, nothing_laid}
use Rattle.class_writer.proofs.Laid.{laid_as, both_laid, item_laid, within_laid, counted_laid}
use Rattle.class_writer.proofs.Laid.{for_parameters_laid}
use Rattle.class_writer.proofs.LaidValues.{text_laid, class_laid, top_value_laid, annotations_laid}
use Rattle.class_writer.proofs.Named.{text_named, class_named, string_named, constant_named}

-- the attributes of a list that are kept
abbrev kept_of : List (Option Attr) → List Attr
kept_of listed = filter_map (λ item. item) listed

-- a list of kept ones alone
abbrev all_kept : List Attr → List (Option Attr)
all_kept kept = map (λ attr. Some attr) kept

kept_of_all : (kept : List Attr) → kept ≡ kept_of (all_kept kept)
kept_of_all [] = refl
kept_of_all (attr ∷ kept) = ap (λ t. attr ∷ t) (kept_of_all kept)

few_kept : (listed : List (Option Attr)) → length (kept_of listed) ≤ length listed
few_kept [] = omega arith
few_kept (None ∷ listed) =
    let rest : length (kept_of listed) ≤ length listed = few_kept listed in
    omega arith
few_kept (Some attr ∷ listed) =
    let rest : length (kept_of listed) ≤ length listed = few_kept listed in
    omega arith

-- how a component is spelled
abbrev Components : Type 1
Components = List Entry → ComponentDesc → List ℕ → Type 0

-- an attribute that is listed
abbrev IsListed : Place → List ℕ → Components → List Entry → Option Attr → List ℕ → Type 0
IsListed place descriptor ComponentIs entries =
    AttributeSpells entries place descriptor (ComponentIs entries)

module _ (read : List Entry) (fit : AllByRecursion EntryFits read)
    (octets : AllByRecursion IsByte (flat_map entry_bytes read)) where
  -- ---- parts of bodies

  field_constant_laid : (descriptor : List ℕ) (constant : Value) (bytes : List ℕ)
      → Numbered (NamesConstant (NamesString read) read (field_constant descriptor)) constant bytes
      → Laid read (EntryNumber (constant_need StringNeed constant) ∷ []) bytes
      (λ entries. Numbered
      (NamesConstant (NamesString entries) entries (field_constant descriptor)) constant)
  field_constant_laid descriptor constant bytes given =
      entry_laid read
      (λ entries. NamesConstant (NamesString entries) entries (field_constant descriptor))
      constant (constant_need StringNeed constant) bytes given
      (constant_named read fit octets NamesString StringNeed (string_named read fit octets)
      (field_constant descriptor) given.number constant given.named)

  classes_laid : (names : List (List ℕ)) (bytes : List ℕ) → ClassesSpell read names bytes
      → Laid read (class_list names) bytes (λ entries. ClassesSpell entries names)
  classes_laid = counted_laid read (λ entries. Numbered (NamesClassOf entries))
      (λ name. class_item name ∷ []) (class_laid read fit octets)

  inner_laid : (e : InnerEntry) (bytes : List ℕ) → InnerSpells read e bytes
      → Laid read (inner_class_items e) bytes (λ entries. InnerSpells entries e)
  inner_laid e bytes given =
      let behind = given.second in
      let last = behind.second in
      item_laid given.whole (class_laid read fit octets e.inner given.front given.first)
      (item_laid behind.whole
      (or_zero_laid read NamesClassOf ClassNeed (class_named read fit octets) e.outer behind.front
      behind.first)
      (item_laid last.whole
      (or_zero_laid read (λ entries. NamesTextOf entries IsAnyText) TextNeed
      (text_named read fit octets IsAnyText) e.name last.front last.first)
      (flags_laid read e.flags last.rest last.second)))

  inner_classes_laid : (entries : List InnerEntry) (bytes : List ℕ)
      → InnerClassesSpell read entries bytes
      → Laid read (counted inner_class_items entries) bytes
      (λ pool. InnerClassesSpell pool entries)
  inner_classes_laid entries bytes given =
      let laid = counted_laid read InnerSpells inner_class_items inner_laid entries bytes
      given.spelled in
      record {
        sized = laid.sized;
        met = laid.met;
        spelled = λ pool few held. record {
          spelled = laid.spelled pool few held;
          distinct = given.distinct;
        };
      }

  parameter_laid : (e : ParamEntry) (bytes : List ℕ) → ParameterSpells read e bytes
      → Laid read (parameter_items e) bytes (λ entries. ParameterSpells entries e)
  parameter_laid e bytes given =
      item_laid given.whole
      (or_zero_laid read (λ entries. NamesTextOf entries IsAnyText) TextNeed
      (text_named read fit octets IsAnyText) e.name given.front given.first)
      (flags_laid read e.flags given.rest given.second)

  lists_laid : (lists : List (List AnnDesc)) (bytes : List ℕ)
      → ForParametersSpell (AnnotationsSpell read) lists bytes
      → Laid read (for_parameters annotation_list lists) bytes
      (λ entries. ForParametersSpell (AnnotationsSpell entries) lists)
  lists_laid = for_parameters_laid read AnnotationsSpell annotation_list
      (annotations_laid read fit octets)

  -- ---- by how a component is spelled

  module _ (place : Place) (descriptor : List ℕ) (ComponentIs : Components)
      (law : (component : ComponentDesc) (bytes : List ℕ) → ComponentIs read component bytes
      → Laid read (component_items component) bytes
      (λ entries. ComponentIs entries component)) where
    body_laid : (layer : Attr-F Attr ComponentDesc) (bytes : List ℕ)
        → BodySpells read place descriptor (ComponentIs read) layer bytes
        → Laid read (layer_body component_items layer) bytes
        (λ entries. BodySpells entries place descriptor (ComponentIs entries) layer)
    body_laid (Attr-F.ConstantValue constant) bytes given =
        field_constant_laid descriptor constant bytes given
    body_laid (Attr-F.Exceptions names) bytes given = classes_laid names bytes given
    body_laid (Attr-F.Signature text) bytes given =
        text_laid read fit octets (IsSignatureText place) text bytes given
    body_laid Attr-F.Deprecated bytes given = nothing_laid read bytes given
    body_laid Attr-F.Synthetic bytes given = nothing_laid read bytes given
    body_laid (Attr-F.InnerClasses entries) bytes given = inner_classes_laid entries bytes given
    body_laid (Attr-F.Components components) bytes given =
        counted_laid read ComponentIs component_items law components bytes given
    body_laid (Attr-F.PermittedSubclasses names) bytes given = classes_laid names bytes given
    body_laid (Attr-F.AnnotationDefault value) bytes given =
        top_value_laid read fit octets value bytes given
    body_laid (Attr-F.MethodParameters entries) bytes given =
        for_parameters_laid read ParameterSpells parameter_items parameter_laid entries bytes given
    body_laid (Attr-F.VisibleAnns annotations) bytes given =
        annotations_laid read fit octets annotations bytes given
    body_laid (Attr-F.InvisibleAnns annotations) bytes given =
        annotations_laid read fit octets annotations bytes given
    body_laid (Attr-F.VisibleParamAnns lists) bytes given = lists_laid lists bytes given
    body_laid (Attr-F.InvisibleParamAnns lists) bytes given = lists_laid lists bytes given

    attribute_laid : (attr : Attr) (bytes : List ℕ)
        → IsListed place descriptor ComponentIs read (Some attr) bytes
        → Laid read (attribute_items attr) bytes
        (λ entries. IsListed place descriptor ComponentIs entries (Some attr))
    unfolding body_items
    attribute_laid attr bytes given =
        let body = given.second in
        laid_as (attribute_apart attr)
        (item_laid given.whole
        (text_laid read fit octets (λ name. keeps place name ≡ true) (attribute_name attr)
        given.front given.first)
        (within_laid body.fits body.whole (body_laid (out-Attr attr) body.body body.spelled)))

    -- those that aren't kept are left out
    listed_laid : (listed : List (Option Attr)) (bytes : List ℕ)
        → EachSpells (IsListed place descriptor ComponentIs read) listed bytes
        → Laid read (flat_map attribute_items (kept_of listed)) bytes
        (λ entries. EachSpells (IsListed place descriptor ComponentIs entries)
        (all_kept (kept_of listed)))
    listed_laid [] bytes given = nothing_laid read bytes given
    listed_laid (None ∷ listed) bytes given =
        let rest = listed_laid listed given.1 given.4 in record {
          sized =
              let long : length bytes ≡ length given.0 + length given.1 =
              ap length given.2 ∙ length-append given.0 given.1 in
              let within : size (flat_map attribute_items (kept_of listed)) ≤ length given.1 =
              rest.sized in
              omega arith;
          met = rest.met;
          spelled = rest.spelled;
        }
    listed_laid (Some attr ∷ listed) bytes given =
        let kept = kept_of listed in
        let pair : Laid read (attribute_items attr ++ flat_map attribute_items kept) bytes
        (λ entries. Both (IsListed place descriptor ComponentIs entries (Some attr))
        (EachSpells (IsListed place descriptor ComponentIs entries) (all_kept kept))) =
        both_laid given.2 (attribute_laid attr given.0 given.3)
        (listed_laid listed given.1 given.4) in
        record {
          sized = pair.sized;
          met = pair.met;
          spelled = λ pool few held.
              let s = pair.spelled pool few held in
              (s.front, s.rest, s.whole, s.first, s.second);
        }

    kept_laid : (kept : List Attr) (bytes : List ℕ)
        → AttributesOver read place descriptor (ComponentIs read) kept bytes
        → Laid read (counted attribute_items kept) bytes
        (λ entries. AttributesOver entries place descriptor (ComponentIs entries) kept)
    kept_laid kept bytes given =
        let list = given.spelled in
        let items = flat_map attribute_items kept in
        let these : Laid read items list.rest
        (λ entries. EachSpells (IsListed place descriptor ComponentIs entries) (all_kept kept)) =
        subst (λ kept. Laid read (flat_map attribute_items kept) list.rest
        (λ entries. EachSpells (IsListed place descriptor ComponentIs entries) (all_kept kept)))
        (sym given.are_kept) (listed_laid given.listed list.rest list.each) in
        let found : length (kept_of given.listed) ≤ length given.listed =
        few_kept given.listed in
        let as_many : length kept ≡ length (kept_of given.listed) = ap length given.are_kept in
        let fits : length given.listed < 2 ^ 16 = list.count in
        record {
          sized =
              let all : size (Count (length kept) ∷ items) ≡ 2 + size items =
              sum_by-cons item_size (Count (length kept)) items in
              let long : length bytes ≡ 2 + length list.rest = ap length list.whole
              ∙ length-append (to_be_bytes w16 (length given.listed)) list.rest in
              let within : size items ≤ length list.rest = these.sized in
              omega arith;
          met = (omega arith, these.met);
          spelled = λ pool few held.
              let same : length (all_kept kept) ≡ length kept =
              length-map kept (λ attr. Some attr) in
              record {
                listed = all_kept kept;
                spelled = record {
                  rest = bytes_over pool items;
                  count = omega arith;
                  whole = ap (λ n. to_be_bytes w16 n ++ bytes_over pool items) (sym same);
                  each = these.spelled pool few held.1;
                };
                are_kept = kept_of_all kept;
                distinct = given.distinct;
              };
        }

  -- ---- components and members

  component_laid : (component : ComponentDesc) (bytes : List ℕ)
      → ComponentSpells read component bytes
      → Laid read (component_items component) bytes (λ entries. ComponentSpells entries component)
  component_laid component bytes given =
      let c = out-ComponentDesc component in
      let behind = given.second in
      laid_as (component_parts component)
      (item_laid given.whole (text_laid read fit octets IsFieldName c.name given.front given.first)
      (item_laid behind.whole
      (text_laid read fit octets IsFieldDescriptor c.descriptor behind.front behind.first)
      (kept_laid place.Component c.descriptor (λ entries inner bytes. ⊥)
      (λ inner bytes given. absurd given) c.attrs behind.rest behind.second)))

  pub attributes_laid : (place : Place) (descriptor : List ℕ) (kept : List Attr) (bytes : List ℕ)
      → AttributesSpell read place descriptor kept bytes
      → Laid read (counted attribute_items kept) bytes
      (λ entries. AttributesSpell entries place descriptor kept)
  attributes_laid place descriptor kept bytes given =
      kept_laid place descriptor ComponentSpells component_laid kept bytes given

  pub member_laid : (place : Place) (IsName IsDescriptor : List ℕ → Type 0) (flags : ℕ)
      (name descriptor : List ℕ) (kept : List Attr) (bytes : List ℕ)
      → MemberSpells read place IsName IsDescriptor flags name descriptor kept bytes
      → Laid read (member_items flags name descriptor kept) bytes
      (λ entries. MemberSpells entries place IsName IsDescriptor flags name descriptor kept)
  member_laid place IsName IsDescriptor flags name descriptor kept bytes given =
      let named = text_named read fit octets IsName given.name_number name given.named in
      let described =
      text_named read fit octets IsDescriptor given.descriptor_number descriptor given.described
      in
      let attributed = attributes_laid place descriptor kept given.attributes given.attributed in
      let attributes = counted attribute_items kept in
      record {
        sized =
            let head = Flags flags ∷ text_item name ∷ text_item descriptor ∷ [] in
            let all : size (head ++ attributes) ≡ 6 + size attributes =
            sum_by-append item_size head attributes in
            let within : size attributes ≤ length given.attributes = attributed.sized in
            omega (arith, ap length given.whole);
        met = (tt, (named.met, (described.met, attributed.met)));
        spelled = λ pool few held. record {
          name_number = number_in pool (TextNeed name);
          descriptor_number = number_in pool (TextNeed descriptor);
          attributes = bytes_over pool attributes;
          flags_fit = given.flags_fit;
          whole = refl;
          named = named.named pool few held.1.0;
          described = described.named pool few held.1.1.0;
          attributed = attributed.spelled pool few held.1.1.1;
        };
      }
