-- What is left of the attributes of a class is spelled over the same pool, by no more bytes: an
-- attribute that stays whole by its own, an InnerClasses by those of the entries that stay.
use Rattle.std.proofs.Common.{◌≡◌, ℕ, ◌+◌, ◌<◌, ◌≤◌, ◌^◌, arith, true, List, []}
use Rattle.std.proofs.Common.{◌∷◌, ◌++◌, length, map, Option, Some, None, refl, sym, ap, subst, ◌∙◌}
use Rattle.std.proofs.Common.{length-append}
use Rattle.std.specs.Prelude.{filter, option_map, IfSome}
use Rattle.std.specs.Option.{option_map_or}
use Rattle.std.specs.List.{flat_map, cons_option, filter_map, IsDistinct}
use Rattle.std.specs.Int.{w32, to_be_bytes}
use Rattle.class_desc.specs.declared.attribute.InnerEntry.{InnerEntry}
use Rattle.class_desc.specs.declared.attribute.Attr.{Attr, out-Attr}
use Rattle.class_desc.specs.declared.attribute.Attr.TheVariants.{InnerClasses}
use Rattle.class_desc.specs.declared.attribute.ComponentDesc.{ComponentDesc}
use Rattle.class_desc.specs.declared.class.ClassDesc.{ClassDesc}
use Rattle.class_desc.specs.declared.place.Place.{Place}
use Rattle.class_desc.specs.Attributes.{Spelling, InnerSpells, InnerClassesSpell, BodySpells}
use Rattle.class_desc.specs.Attributes.{NamesAttribute, AttributeSpells, AttributesOver}
use Rattle.class_desc.specs.Items.{Numbered, Both, Within}
use Rattle.class_desc.specs.Places.{attribute_name, layer_name}
use Rattle.class_desc.specs.Pool.{Entry}
use Rattle.java_names.specs.Names.{is_text}
use Rattle.lemmas.proofs.Lists.{all_append, all_front, all_behind}
use Rattle.class_views.specs.View.{inner_in}
use Rattle.class_views.specs.Strip.{stays_entry, inner_classes, strip_attribute}
use Rattle.class_views.proofs.Filtered.{IsByte, AreBytes, Fewer, counted_left, distinct_left}
use Rattle.class_views.proofs.Filtered.{counted_stay, distinct_stay}
use Rattle.class_views.proofs.Viewed.{is_inner, out_inner}

-- the attribute of these entries, or none without entries
abbrev with_entries : List InnerEntry → Option Attr
with_entries [] = None
with_entries (entry ∷ entries) = Some (InnerClasses (entry ∷ entries))

-- an InnerClasses of these entries has the name of each other one
inner_named : (a : Attr) (entries left : List InnerEntry)
    → inner_in (out-Attr a) ≡ Some entries
    → attribute_name (InnerClasses left) ≡ attribute_name a
unfolding attribute_name
inner_named a entries left is =
    ap layer_name (out_inner left) ∙ sym (ap layer_name (is_inner (out-Attr a) entries is))

module _ (d : ClassDesc) where
  abbrev staying : List InnerEntry → List InnerEntry
  staying entries = filter (stays_entry d entries) entries

  -- what is left of an attribute that holds this
  abbrev left_of : Attr → Option (List InnerEntry) → Option Attr
  left_of a inner = option_map_or (λ entries. with_entries (staying entries)) inner (Some a)

  abbrev left_attribute : Attr → Option Attr
  left_attribute a = left_of a (inner_in (out-Attr a))

  strip_is : (attributes : List Attr) → flat_map (strip_attribute d) attributes
      ≡ filter_map left_attribute attributes
  strip_is [] = refl
  strip_is (a ∷ attributes) = by (inner_in (out-Attr a)) (strip_is attributes)
    where
      front : (left : List InnerEntry) (rest : List Attr)
          → inner_classes left ++ rest ≡ cons_option (with_entries left) rest
      front [] rest = refl
      front (entry ∷ entries) rest = refl

      by : (inner : Option (List InnerEntry))
          → flat_map (strip_attribute d) attributes ≡ filter_map left_attribute attributes
          → option_map_or (λ entries. inner_classes (staying entries)) inner (a ∷ [])
          ++ flat_map (strip_attribute d) attributes
          ≡ cons_option (left_of a inner) (filter_map left_attribute attributes)
      by None rest = ap (λ others. a ∷ others) rest
      by (Some entries) rest =
          ap (λ others. inner_classes (staying entries) ++ others) rest
          ∙ front (staying entries) (filter_map left_attribute attributes)

  named : (a : Attr) → IfSome (left_attribute a) (λ b. attribute_name b ≡ attribute_name a)
  named a = by (inner_in (out-Attr a)) refl
    where
      by_left : (entries left : List InnerEntry) → inner_in (out-Attr a) ≡ Some entries
          → IfSome (with_entries left) (λ b. attribute_name b ≡ attribute_name a)
      by_left entries [] is = tt
      by_left entries (entry ∷ left) is = inner_named a entries (entry ∷ left) is

      by : (inner : Option (List InnerEntry)) → inner_in (out-Attr a) ≡ inner
          → IfSome (left_of a inner) (λ b. attribute_name b ≡ attribute_name a)
      by None is = refl
      by (Some entries) is = by_left entries (staying entries) is

  -- ---- of the list in the file, others between the kept ones

  abbrev left_listed : Option Attr → Option (Option Attr)
  left_listed None = Some None
  left_listed (Some a) = option_map (λ b. Some b) (left_attribute a)

  left_kept : (listed : List (Option Attr))
      → filter_map (λ item. item) (filter_map left_listed listed)
      ≡ filter_map left_attribute (filter_map (λ item. item) listed)
  left_kept [] = refl
  left_kept (None ∷ listed) = left_kept listed
  left_kept (Some a ∷ listed) = by (left_attribute a) (left_kept listed)
    where
      by : (left : Option Attr)
          → filter_map (λ item. item) (filter_map left_listed listed)
          ≡ filter_map left_attribute (filter_map (λ item. item) listed)
          → filter_map (λ item. item)
          (cons_option (option_map (λ b. Some b) left) (filter_map left_listed listed))
          ≡ cons_option left (filter_map left_attribute (filter_map (λ item. item) listed))
      by None rest = rest
      by (Some b) rest = ap (λ others. b ∷ others) rest

  -- ---- the bytes

  module _ (pool : List Entry) (place : Place) (descriptor : List ℕ)
      (ComponentIs : Spelling ComponentDesc) where
    abbrev Spells : Spelling (Option Attr)
    Spells = AttributeSpells pool place descriptor ComponentIs

    fewer_entries : (entries : List InnerEntry) (body : List ℕ) → AreBytes body
        → InnerClassesSpell pool entries body
        → Fewer (InnerClassesSpell pool (staying entries)) (length body)
    fewer_entries entries body are s =
        let keeps = stays_entry d entries in
        let left = counted_stay keeps (InnerSpells pool) entries body are s.spelled in record {
          bytes = left.bytes;
          are = left.are;
          few = left.few;
          spelled = record {
            spelled = left.spelled;
            distinct = distinct_stay keeps (λ e. e.inner) is_text entries s.distinct;
          };
        }

    -- the number of the name stays, and the body is a shorter one
    shorter : (a : Attr) (entries left : List InnerEntry) (bytes : List ℕ) → AreBytes bytes
        → inner_in (out-Attr a) ≡ Some entries
        → (s : Both (Numbered (NamesAttribute pool place true) (attribute_name a))
        (Within (BodySpells pool place descriptor ComponentIs (out-Attr a))) bytes)
        → Fewer (InnerClassesSpell pool left) (length s.second.body)
        → Fewer (Spells (Some (InnerClasses left))) (length bytes)
    shorter a entries left bytes are is s inner =
        let parts : AreBytes (s.front ++ s.rest) = subst AreBytes s.whole are in
        let head : AreBytes s.front = all_front IsByte s.front s.rest parts in
        let long : length bytes ≡ length s.front + length s.rest =
        ap length s.whole ∙ length-append s.front s.rest in
        let behind : length s.rest
        ≡ length (to_be_bytes w32 (length s.second.body) ++ s.second.body) =
        ap length s.second.whole in
        let fits : length s.second.body < 2 ^ 32 = s.second.fits in
        let few : length inner.bytes ≤ length s.second.body = inner.few in
        let rest = to_be_bytes w32 (length inner.bytes) ++ inner.bytes in
        let whole : length (s.front ++ rest) ≡ length s.front + length rest =
        length-append s.front rest in record {
          bytes = s.front ++ rest;
          are =
              all_append IsByte s.front rest head
              (omega arith, (omega arith, (omega arith, (omega arith, inner.are))));
          few = omega arith;
          spelled = record {
            front = s.front;
            rest = rest;
            whole = refl;
            first =
                subst (λ name. Numbered (NamesAttribute pool place true) name s.front)
                (sym (inner_named a entries left is)) s.first;
            second = record {
              body = inner.bytes;
              fits = omega arith;
              whole = refl;
              spelled =
                  subst (λ layer. BodySpells pool place descriptor ComponentIs layer inner.bytes)
                  (sym (out_inner left)) inner.spelled;
            };
          };
        }

    inner_left : (a : Attr) (entries : List InnerEntry) (bytes : List ℕ) → AreBytes bytes
        → inner_in (out-Attr a) ≡ Some entries → Spells (Some a) bytes
        → IfSome (option_map (λ b. Some b) (with_entries (staying entries)))
        (λ b. Fewer (Spells b) (length bytes))
    inner_left a entries bytes are is s = by (staying entries) fewer
      where
        body_bytes : AreBytes s.second.body
        body_bytes =
            let parts : AreBytes (s.front ++ s.rest) = subst AreBytes s.whole are in
            let behind : AreBytes (to_be_bytes w32 (length s.second.body) ++ s.second.body) =
            subst AreBytes s.second.whole (all_behind IsByte s.front s.rest parts) in
            all_behind IsByte (to_be_bytes w32 (length s.second.body)) s.second.body behind

        fewer : Fewer (InnerClassesSpell pool (staying entries)) (length s.second.body)
        fewer =
            fewer_entries entries s.second.body body_bytes
            (subst (λ layer. BodySpells pool place descriptor ComponentIs layer s.second.body)
            (is_inner (out-Attr a) entries is) s.second.spelled)

        by : (left : List InnerEntry)
            → Fewer (InnerClassesSpell pool left) (length s.second.body)
            → IfSome (option_map (λ b. Some b) (with_entries left))
            (λ b. Fewer (Spells b) (length bytes))
        by [] f = tt
        by (entry ∷ left) f = shorter a entries (entry ∷ left) bytes are is s f

    listed_left : (item : Option Attr) (bytes : List ℕ) → AreBytes bytes → Spells item bytes
        → IfSome (left_listed item) (λ b. Fewer (Spells b) (length bytes))
    listed_left None bytes are s =
        record { bytes = bytes; are = are; few = omega arith; spelled = s }
    listed_left (Some a) bytes are s = by (inner_in (out-Attr a)) refl
      where
        by : (inner : Option (List InnerEntry)) → inner_in (out-Attr a) ≡ inner
            → IfSome (option_map (λ b. Some b) (left_of a inner))
            (λ b. Fewer (Spells b) (length bytes))
        by None is = record { bytes = bytes; are = are; few = omega arith; spelled = s }
        by (Some entries) is = inner_left a entries bytes are is s

    pub attributes_left : (kept : List Attr) (bytes : List ℕ) → AreBytes bytes
        → AttributesOver pool place descriptor ComponentIs kept bytes
        → Fewer (AttributesOver pool place descriptor ComponentIs
        (flat_map (strip_attribute d) kept)) (length bytes)
    attributes_left kept bytes are s =
        let left = counted_left left_listed Spells listed_left s.listed bytes are s.spelled in
        record {
          bytes = left.bytes;
          are = left.are;
          few = left.few;
          spelled = record {
            listed = filter_map left_listed s.listed;
            spelled = left.spelled;
            are_kept =
                ap (flat_map (strip_attribute d)) s.are_kept
                ∙ strip_is (filter_map (λ item. item) s.listed) ∙ sym (left_kept s.listed);
            distinct =
                subst (λ others. IsDistinct is_text (map attribute_name others))
                (sym (strip_is kept))
                (distinct_left left_attribute attribute_name named is_text kept s.distinct);
          };
        }
