-- A class that some file spells has at most one attribute of a kind at each place, since the names
-- of the kept attributes in a list differ.
use Rattle.std.proofs.Common.{◌≡◌, ℕ, ◌≤◌, arith, Bool, true, false, cond, List, [], ◌∷◌, length}
use Rattle.std.proofs.Common.{map, Option, Some, None, refl, sym, ap, subst, ◌∙◌}
use Rattle.std.specs.Prelude.{filter, is_some, unwrap_or, IfSome}
use Rattle.std.specs.List.{AllByRecursion, IsDistinct, filter_map}
use Rattle.std.proofs.lemmas.Bool.{false≢true}
use Rattle.class_desc.specs.declared.attribute.InnerEntry.{InnerEntry}
use Rattle.class_desc.specs.declared.attribute.Attr.{Attr, out-Attr}
use Rattle.class_desc.specs.declared.attribute.Attr.TheOpen.{Attr-F}
use Rattle.class_desc.specs.declared.attribute.ComponentDesc.{ComponentDesc, out-ComponentDesc}
use Rattle.class_desc.specs.declared.attribute_kind.AttributeKind.TheVariants as kind
use Rattle.class_desc.specs.declared.class.ClassDesc.{ClassDesc}
use Rattle.class_desc.specs.declared.class.FieldDesc.{FieldDesc}
use Rattle.class_desc.specs.declared.class.MethodDesc.{MethodDesc}
use Rattle.class_desc.specs.declared.place.Place.TheVariants as place
use Rattle.class_desc.specs.Attributes.{BodySpells, ComponentSpells, AttributeSpells}
use Rattle.class_desc.specs.Attributes.{AttributesSpell}
use Rattle.class_desc.specs.ClassFile.{FieldSpells, MethodSpells, IsValid}
use Rattle.class_desc.specs.Items.{EachSpells}
use Rattle.class_desc.specs.Places.{kind_name, attribute_name, layer_name}
use Rattle.class_desc.specs.Pool.{Entry}
use Rattle.java_names.specs.Names.{is_text}
use Rattle.class_views.specs.OneOfAKind.{HasOneOfAKind, components_of, HasOneOfEach}
use Rattle.class_views.specs.Strip.{HasOneInnerClasses}
use Rattle.class_views.specs.View.{Layer, inner_in, components_in}
use Rattle.class_views.proofs.Staying.{no_longer}
use Rattle.class_views.proofs.Viewed.{is_inner}
use Rattle.class_views.proofs.Worlds.{same_text, texts}

-- ---- names that differ

module _ (name : List ℕ) where
  abbrev is_of : Attr → Bool
  is_of a = is_text name (attribute_name a)

  none_more : (own : List ℕ) (attributes : List Attr) → is_text name own ≡ true
      → AllByRecursion (λ other. is_text own other ≡ false) (map attribute_name attributes)
      → length (filter is_of attributes) ≤ 0
  none_more own [] is differ = omega arith
  none_more own (a ∷ attributes) is differ =
      let other : is_of a ≡ false =
      ap (λ t. is_text t (attribute_name a)) (same_text name own is) ∙ differ.0 in
      by (is_of a) other (none_more own attributes is differ.1)
    where
      by : (b : Bool) → b ≡ false → length (filter is_of attributes) ≤ 0
          → length (cond b (a ∷ filter is_of attributes) (filter is_of attributes)) ≤ 0
      by true e rest = absurd (false≢true (sym e))
      by false e rest = rest

  at_most_one : (attributes : List Attr) → IsDistinct is_text (map attribute_name attributes)
      → length (filter is_of attributes) ≤ 1
  unfolding IsDistinct
  at_most_one [] distinct = omega arith
  at_most_one (a ∷ attributes) distinct =
      by (is_of a) (λ is. none_more (attribute_name a) attributes is distinct.0)
      (at_most_one attributes distinct.1)
    where
      by : (b : Bool) → (b ≡ true → length (filter is_of attributes) ≤ 0)
          → length (filter is_of attributes) ≤ 1
          → length (cond b (a ∷ filter is_of attributes) (filter is_of attributes)) ≤ 1
      by true none rest =
          let few : length (filter is_of attributes) ≤ 0 = none refl in omega arith
      by false none rest = rest

one_of_a_kind : (attributes : List Attr) → IsDistinct is_text (map attribute_name attributes)
    → HasOneOfAKind attributes
one_of_a_kind attributes distinct = λ kind. at_most_one (kind_name kind) attributes distinct

-- ---- at each place

-- what holds of whatever is spelled holds of each of the items
all_spelled : {A : Type 0} (Spells : A → List ℕ → Type 0) (Holds : A → Type 0)
    → ((item : A) (bytes : List ℕ) → Spells item bytes → Holds item)
    → (items : List A) (bytes : List ℕ) → EachSpells Spells items bytes
    → AllByRecursion Holds items
all_spelled Spells Holds holds [] bytes spelled = tt
all_spelled Spells Holds holds (item ∷ items) bytes (front, rest, whole, one, others) =
    (holds item front one, all_spelled Spells Holds holds items rest others)

all_kept : {A : Type 0} (Holds : A → Type 0) (listed : List (Option A))
    → AllByRecursion (λ item. IfSome item Holds) listed
    → AllByRecursion Holds (filter_map (λ item. item) listed)
all_kept Holds [] all = tt
all_kept Holds (None ∷ listed) all = all_kept Holds listed all.1
all_kept Holds (Some item ∷ listed) all = (all.0, all_kept Holds listed all.1)

module _ (pool : List Entry) where
  abbrev IsComponentFine : ComponentDesc → Type 0
  IsComponentFine c = HasOneOfAKind (out-ComponentDesc c).attrs

  abbrev AreFine : List ComponentDesc → Type 0
  AreFine = AllByRecursion IsComponentFine

  component_fine : (c : ComponentDesc) (bytes : List ℕ) → ComponentSpells pool c bytes
      → IsComponentFine c
  component_fine c bytes s =
      one_of_a_kind (out-ComponentDesc c).attrs s.second.second.distinct

  body_fine : (layer : Layer) (body : List ℕ)
      → BodySpells pool place.Class [] (ComponentSpells pool) layer body
      → AreFine (unwrap_or (components_in layer) [])
  body_fine (Attr-F.Components components) body s =
      all_spelled (ComponentSpells pool) IsComponentFine component_fine components s.rest s.each
  body_fine other body s = tt

  listed_fine : (item : Option Attr) (bytes : List ℕ)
      → AttributeSpells pool place.Class [] (ComponentSpells pool) item bytes
      → IfSome item (λ a. AreFine (components_of a))
  listed_fine None bytes s = tt
  listed_fine (Some a) bytes s = body_fine (out-Attr a) s.second.body s.second.spelled

  components_fine : (kept : List Attr) (bytes : List ℕ)
      → AttributesSpell pool place.Class [] kept bytes
      → AllByRecursion (λ a. AreFine (components_of a)) kept
  components_fine kept bytes s =
      subst (AllByRecursion (λ a. AreFine (components_of a))) (sym s.are_kept)
      (all_kept (λ a. AreFine (components_of a)) s.listed
      (all_spelled (AttributeSpells pool place.Class [] (ComponentSpells pool))
      (λ item. IfSome item (λ a. AreFine (components_of a))) listed_fine s.listed
      s.spelled.rest s.spelled.each))

  field_fine : (f : FieldDesc) (bytes : List ℕ) → FieldSpells pool f bytes
      → HasOneOfAKind f.attrs
  field_fine f bytes s = one_of_a_kind f.attrs s.attributed.distinct

  method_fine : (m : MethodDesc) (bytes : List ℕ) → MethodSpells pool m bytes
      → HasOneOfAKind m.attrs
  method_fine m bytes s = one_of_a_kind m.attrs s.attributed.distinct

pub one_of_each : (d : ClassDesc) → IsValid d → HasOneOfEach d
one_of_each d (bytes, all, (pool, s, few)) = record {
  own = one_of_a_kind d.attrs s.attributes.distinct;
  fields = all_spelled (FieldSpells pool) (λ f. HasOneOfAKind f.attrs) (field_fine pool)
      d.fields s.fields.rest s.fields.each;
  methods = all_spelled (MethodSpells pool) (λ m. HasOneOfAKind m.attrs) (method_fine pool)
      d.methods s.methods.rest s.methods.each;
  components = components_fine pool d.attrs s.parts.attributes s.attributes;
}

-- ---- one InnerClasses

inner_is_named : (a : Attr) → is_some (inner_in (out-Attr a)) ≡ true
    → is_text (kind_name kind.InnerClasses) (attribute_name a) ≡ true
unfolding attribute_name
inner_is_named a e = by (inner_in (out-Attr a)) refl e
  where
    by : (inner : Option (List InnerEntry)) → inner_in (out-Attr a) ≡ inner
        → is_some inner ≡ true
        → is_text (kind_name kind.InnerClasses) (layer_name (out-Attr a)) ≡ true
    by None is e = absurd (false≢true e)
    by (Some entries) is e =
        ap (λ layer. is_text (kind_name kind.InnerClasses) (layer_name layer))
        (is_inner (out-Attr a) entries is)
        ∙ texts.refl (kind_name kind.InnerClasses)

pub one_inner : (d : ClassDesc) → IsValid d → HasOneInnerClasses d
one_inner d valid =
    let few : length (filter (λ a. is_some (inner_in (out-Attr a))) d.attrs)
    ≤ length (filter (is_of (kind_name kind.InnerClasses)) d.attrs) =
    no_longer (λ a. is_some (inner_in (out-Attr a))) (is_of (kind_name kind.InnerClasses))
    inner_is_named d.attrs in
    let one : length (filter (is_of (kind_name kind.InnerClasses)) d.attrs) ≤ 1 =
    (one_of_each d valid).own kind.InnerClasses in
    omega arith

pub each_one_inner : (list : List ClassDesc) → AllByRecursion IsValid list
    → AllByRecursion HasOneInnerClasses list
each_one_inner [] valid = tt
each_one_inner (d ∷ list) valid = (one_inner d valid.0, each_one_inner list valid.1)
