-- What is left of a class has no more text than the class.
use Rattle.std.proofs.Common.{◌≡◌, ℕ, ◌+◌, ◌≤◌, arith, Bool, true, false, cond, List, [], ◌∷◌, ◌++◌}
use Rattle.std.proofs.Common.{length, Option, Some, None, refl, sym, ap, ◌∙◌}
use Rattle.std.specs.Prelude.{filter}
use Rattle.std.specs.Option.{option_map_or}
use Rattle.std.specs.List.{flat_map}
use Rattle.class_desc.specs.declared.attribute.InnerEntry.{InnerEntry}
use Rattle.class_desc.specs.declared.attribute.Attr.{Attr, out-Attr}
use Rattle.class_desc.specs.declared.attribute.Attr.TheVariants.{InnerClasses}
use Rattle.class_desc.specs.declared.class.ClassDesc.{ClassDesc}
use Rattle.class_desc.specs.Texts.{total, inner_texts, body_texts, attribute_texts}
use Rattle.class_desc.specs.Texts.{component_texts, field_texts, method_texts, class_texts}
use Rattle.class_desc.proofs.Texts.{total_append, attribute_is}
use Rattle.class_views.specs.View.{inner_in}
use Rattle.class_views.specs.Strip.{stays_field, stays_method, stays_entry, inner_classes}
use Rattle.class_views.specs.Strip.{strip_attribute, strip_class}
use Rattle.class_views.proofs.Viewed.{is_inner, out_inner}

-- some of the items have no more than all
fewer : {A : Type 0} (weight : A → ℕ) (stays : A → Bool) (items : List A)
    → total weight (filter stays items) ≤ total weight items
fewer weight stays [] = omega arith
fewer {A} weight stays (item ∷ items) = by (stays item) (fewer weight stays items)
  where
    by : (b : Bool) → total weight (filter stays items) ≤ total weight items
        → total weight (cond b (item ∷ filter stays items) (filter stays items))
        ≤ weight item + total weight items
    by true less = omega (arith, less)
    by false less = omega (arith, less)

-- an InnerClasses has what its entries have
inner_has : (a : Attr) (entries : List InnerEntry) → inner_in (out-Attr a) ≡ Some entries
    → attribute_texts a ≡ total inner_texts entries
inner_has a entries is =
    attribute_is a ∙ ap (body_texts component_texts) (is_inner (out-Attr a) entries is)

made_has : (entries : List InnerEntry) → total attribute_texts (inner_classes entries)
    ≤ total inner_texts entries
made_has [] = omega arith
made_has (entry ∷ entries) =
    let own : attribute_texts (InnerClasses (entry ∷ entries))
    ≡ total inner_texts (entry ∷ entries) =
    attribute_is (InnerClasses (entry ∷ entries))
    ∙ ap (body_texts component_texts) (out_inner (entry ∷ entries)) in
    omega (arith, own)

module _ (d : ClassDesc) where
  abbrev left_of : Attr → Option (List InnerEntry) → List Attr
  left_of a inner =
      option_map_or (λ entries. inner_classes (filter (stays_entry d entries) entries)) inner
      (a ∷ [])

  attribute_less : (a : Attr) → total attribute_texts (strip_attribute d a) ≤ attribute_texts a
  attribute_less a = by (inner_in (out-Attr a)) refl
    where
      by : (inner : Option (List InnerEntry)) → inner_in (out-Attr a) ≡ inner
          → total attribute_texts (left_of a inner) ≤ attribute_texts a
      by None is = omega arith
      by (Some entries) is =
          let own = inner_has a entries is in
          let left = made_has (filter (stays_entry d entries) entries) in
          let less = fewer inner_texts (stays_entry d entries) entries in
          omega (arith, own, left, less)

  attributes_less : (attributes : List Attr)
      → total attribute_texts (flat_map (strip_attribute d) attributes)
      ≤ total attribute_texts attributes
  attributes_less [] = omega arith
  attributes_less (a ∷ attributes) =
      let both = total_append attribute_texts (strip_attribute d a)
      (flat_map (strip_attribute d) attributes) in
      let one = attribute_less a in
      let others = attributes_less attributes in
      omega (arith, both, one, others)

pub stripped_texts : (d : ClassDesc) → class_texts (strip_class d) ≤ class_texts d
stripped_texts d =
    let fields = fewer field_texts stays_field d.fields in
    let methods = fewer method_texts stays_method d.methods in
    let attributes = attributes_less d d.attrs in
    omega (arith, fields, methods, attributes)
