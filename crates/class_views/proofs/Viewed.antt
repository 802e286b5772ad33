-- The view of the stripped description: of attributes it has only the class's own entry from
-- InnerClasses, and that entry stays.
use Rattle.std.proofs.Common.{◌≡◌, ℕ, ◌≤◌, arith, Bool, true, false, cond, ◌&&◌, not, List, []}
use Rattle.std.proofs.Common.{◌∷◌, ◌++◌, length, map, refl, ap, ◌∙◌, sym}
use Rattle.std.specs.Prelude.{filter, find, Option, Some, None, is_some, option_map, unwrap_or}
use Rattle.std.specs.Option.{option_or, option_map_or}
use Rattle.std.specs.List.{flat_map}
use Rattle.class_desc.specs.declared.annotation.AnnDesc.{AnnDesc}
use Rattle.class_desc.specs.declared.attribute.InnerEntry.{InnerEntry}
use Rattle.class_desc.specs.declared.attribute.Attr.{Attr, out-Attr}
use Rattle.class_desc.specs.declared.attribute.Attr.TheOpen.{Attr-F}
use Rattle.class_desc.specs.declared.attribute.Attr.TheVariants.{InnerClasses}
use Rattle.class_desc.specs.declared.bound_annotations.Ann.{Ann}
use Rattle.class_desc.specs.declared.class.ClassDesc.{ClassDesc}
use Rattle.java_names.specs.Names.{is_text}
use Rattle.class_views.specs.View.{Layer, MemberView, ComponentView, View, first_attribute}
use Rattle.class_views.specs.View.{listed_in, inner_in, signature_in, permitted_in, components_in}
use Rattle.class_views.specs.View.{visible_in, invisible_in, deprecation_in, annotations_of}
use Rattle.class_views.specs.View.{view_of_component, view_of_field, view_of_method, own_entry_of}
use Rattle.class_views.specs.View.{view_of_desc}
use Rattle.class_views.specs.Flags.{is_private}
use Rattle.class_views.specs.Strip.{stays_entry, inner_classes, strip_attribute, strip_class}
use Rattle.class_views.specs.Strip.{is_class_initialiser, strip_view, HasOneInnerClasses}
use Rattle.class_views.proofs.Filtered.{map_filter}

-- ---- attributes of other kinds

pub is_inner : (layer : Layer) (entries : List InnerEntry) → inner_in layer ≡ Some entries →
    layer ≡ Attr-F.InnerClasses entries
is_inner (Attr-F.InnerClasses own) entries is = cc
is_inner other entries is = cc

pub out_inner : (entries : List InnerEntry) → out-Attr (InnerClasses entries)
    ≡ Attr-F.InnerClasses entries
unfolding out-Attr denote.Hole.Carrier.out
out_inner entries = refl

-- a test that passes what another one seeks
find_kept : {A : Type 0} (t p : A → Bool) → ((x : A) → p x ≡ true → t x ≡ true) → (xs : List A) →
    find p (filter t xs) ≡ find p xs
find_kept t p each [] = refl
find_kept t p each (x ∷ xs) = by (t x) (p x) refl (each x) (find_kept t p each xs)
  where
    by : (a b : Bool) → p x ≡ b → (b ≡ true → a ≡ true) → find p (filter t xs) ≡ find p xs
        → find p (cond a (x ∷ filter t xs) (filter t xs)) ≡ cond b (Some x) (find p xs)
    by true true is sought rest = rw is refl
    by true false is sought rest = rw is rest
    by false true is sought rest = let e : false ≡ true = sought refl in cc
    by false false is sought rest = rest

module _ (d : ClassDesc) where
  -- what a kind of attribute leaves, by what it holds
  abbrev pub left_of : Attr → Option (List InnerEntry) → List Attr
  left_of a inner = option_map_or (λ entries. inner_classes
      (filter (stays_entry d entries) entries)) inner (a ∷ [])

  abbrev pub strip : List Attr → List Attr
  strip attributes = flat_map (strip_attribute d) attributes

  module _ {A : Type 0} (held : Layer → Option A)
      (other : (entries : List InnerEntry) → held (Attr-F.InnerClasses entries) ≡ None) where
    passed : (left : List InnerEntry) (attributes : List Attr) →
        first_attribute held (inner_classes left ++ attributes) ≡ first_attribute held attributes
    passed [] attributes = refl
    passed (entry ∷ entries) attributes =
        let absent : held (out-Attr (InnerClasses (entry ∷ entries))) ≡ None =
        ap held (out_inner (entry ∷ entries)) ∙ other (entry ∷ entries) in
        ap (λ found. option_or found (first_attribute held attributes)) absent

    pub other_stays : (attributes : List Attr) → first_attribute held (strip attributes)
        ≡ first_attribute held attributes
    other_stays [] = refl
    other_stays (a ∷ attributes) = by (inner_in (out-Attr a)) refl (other_stays attributes)
      where
        by : (inner : Option (List InnerEntry)) → inner_in (out-Attr a) ≡ inner
            → first_attribute held (strip attributes) ≡ first_attribute held attributes
            → first_attribute held (left_of a inner ++ strip attributes)
            ≡ option_or (held (out-Attr a)) (first_attribute held attributes)
        by None is rest = ap (option_or (held (out-Attr a))) rest
        by (Some entries) is rest =
            let absent : held (out-Attr a) ≡ None = ap held (is_inner (out-Attr a) entries is)
            ∙ other entries in
            passed (filter (stays_entry d entries) entries) (strip attributes)
            ∙ (rest ∙ sym (ap (λ found. option_or found (first_attribute held attributes)) absent))

  -- ---- the class's own entry

  abbrev pub is_own : InnerEntry → Bool
  is_own e = is_text e.inner d.name

  own_stays : (entries : List InnerEntry) (e : InnerEntry) → is_own e ≡ true →
      stays_entry d entries e ≡ true
  unfolding stays_entry
  own_stays entries e is = rw is refl

  abbrev pub is_inner_attribute : Attr → Bool
  is_inner_attribute a = is_some (inner_in (out-Attr a))

  none_left : (attributes : List Attr) → length (filter is_inner_attribute attributes) ≤ 0 →
      first_attribute inner_in (strip attributes) ≡ None
  none_left [] few = refl
  none_left (a ∷ attributes) few = by (inner_in (out-Attr a)) refl (none_left attributes) few
    where
      by : (inner : Option (List InnerEntry)) → inner_in (out-Attr a) ≡ inner
          → (length (filter is_inner_attribute attributes) ≤ 0 →
          first_attribute inner_in (strip attributes) ≡ None)
          → length (cond (is_some inner) (a ∷ filter is_inner_attribute attributes)
          (filter is_inner_attribute attributes)) ≤ 0
          → first_attribute inner_in (left_of a inner ++ strip attributes) ≡ None
      by None is rest few = ap (λ found. option_or found
          (first_attribute inner_in (strip attributes))) is ∙ rest few
      by (Some entries) is rest few = absurd (omega arith)

  first_left : (left : List InnerEntry) (attributes : List Attr) →
      first_attribute inner_in attributes ≡ None
      → listed_in inner_in (inner_classes left ++ attributes) ≡ left
  first_left [] attributes none = ap (λ found. unwrap_or found []) none
  first_left (entry ∷ entries) attributes none =
      ap (λ layer. unwrap_or (option_or (inner_in layer) (first_attribute inner_in attributes))
      []) (out_inner (entry ∷ entries))

  own_same : (attributes : List Attr) → length (filter is_inner_attribute attributes) ≤ 1
      → own_entry_of d.name (listed_in inner_in (strip attributes))
      ≡ own_entry_of d.name (listed_in inner_in attributes)
  own_same [] few = refl
  own_same (a ∷ attributes) few = by (inner_in (out-Attr a)) refl (own_same attributes) few
    where
      by : (inner : Option (List InnerEntry)) → inner_in (out-Attr a) ≡ inner
          → (length (filter is_inner_attribute attributes) ≤ 1 →
          own_entry_of d.name (listed_in inner_in (strip attributes))
          ≡ own_entry_of d.name (listed_in inner_in attributes))
          → length (cond (is_some inner) (a ∷ filter is_inner_attribute attributes)
          (filter is_inner_attribute attributes)) ≤ 1
          → own_entry_of d.name (listed_in inner_in (left_of a inner ++ strip attributes))
          ≡ find is_own (unwrap_or (option_or inner (first_attribute inner_in attributes)) [])
      by None is rest few = ap (λ found. find is_own
          (unwrap_or (option_or found (first_attribute inner_in (strip attributes))) [])) is
          ∙ rest few
      by (Some entries) is rest few =
          let left = filter (stays_entry d entries) entries in
          let none : first_attribute inner_in (strip attributes) ≡ None =
          none_left attributes (omega arith) in
          ap (find is_own) (first_left left (strip attributes) none)
          ∙ find_kept (stays_entry d entries) is_own (own_stays entries) entries

-- ---- the whole view

-- of a class with these parts
abbrev pub view_with : ClassDesc → Option InnerEntry → Option (List ℕ) → List (List ℕ) →
    Option (List ComponentView) → List Ann → Bool → List MemberView → List MemberView → View
view_with d own_entry signature permitted components annotations deprecated fields methods =
    record {
      name = d.name;
      flags = d.flags;
      own_entry = own_entry;
      super_name = d.super_name;
      interfaces = d.interfaces;
      signature = signature;
      permitted = permitted;
      components = components;
      annotations = annotations;
      deprecated = deprecated;
      fields = fields;
      methods = methods;
    }

same_parts : (d : ClassDesc) {own own' : Option InnerEntry}
    {signature signature' : Option (List ℕ)} {permitted permitted' : List (List ℕ)}
    {components components' : Option (List ComponentView)} {annotations annotations' : List Ann}
    {deprecated deprecated' : Bool}
    {fields fields' methods methods' : List MemberView}
    → own ≡ own' → signature ≡ signature' → permitted ≡ permitted' → components ≡ components' →
    annotations ≡ annotations'
    → deprecated ≡ deprecated' → fields ≡ fields' → methods ≡ methods'
    → view_with d own signature permitted components annotations deprecated fields methods
    ≡ view_with d own' signature' permitted' components' annotations' deprecated' fields' methods'
same_parts d a b c e f g h i = cc

same_annotations : (d : ClassDesc) (attributes : List Attr) →
    annotations_of (map out-Attr (strip d attributes)) ≡ annotations_of (map out-Attr attributes)
same_annotations d attributes =
    let shown : Bool → Option (List AnnDesc) → List Ann =
    λ visible found. map (λ desc. record { visible = visible; desc = desc })
    (unwrap_or found []) in
    let visible = other_stays d visible_in (λ entries. refl) attributes in
    let invisible = other_stays d invisible_in (λ entries. refl) attributes in
    ap (λ found. shown true found ++ shown false
    (first_attribute invisible_in (strip d attributes))) visible
    ∙ ap (λ found. shown true (first_attribute visible_in attributes) ++ shown false found)
    invisible

pub stripped_view : (d : ClassDesc) → HasOneInnerClasses d → view_of_desc (strip_class d)
    ≡ strip_view (view_of_desc d)
stripped_view d one =
    let own = own_same d d.attrs one in
    let signature = other_stays d signature_in (λ entries. refl) d.attrs in
    let permitted = ap (λ found. unwrap_or found [])
    (other_stays d permitted_in (λ entries. refl) d.attrs) in
    let components = ap (option_map (map view_of_component))
    (other_stays d components_in (λ entries. refl) d.attrs) in
    let annotations = same_annotations d d.attrs in
    let deprecated = ap is_some (other_stays d deprecation_in (λ entries. refl) d.attrs) in
    let fields = map_filter view_of_field (λ f. not (is_private f.flags)) d.fields in
    let methods = map_filter view_of_method
    (λ m. not (is_private m.flags) && not (is_class_initialiser m)) d.methods in
    same_parts d own signature permitted components annotations deprecated fields methods
