-- Entries of InnerClasses and of MethodParameters.
use Rattle.std.proofs.Common.{◌≡◌, ℕ, ◌^◌, ◌<◌, Bool, true, false, cond, List, [], ◌∷◌}
use Rattle.std.proofs.Common.{length, map, Option, Some, Ok, Err, refl, sym, ap}
use Rattle.std.proofs.Common.{subst, ◌∙◌, ◌+◌, Result, arith}
use Rattle.std.specs.List.{list_any, filter_map}
use Rattle.std.specs.Int.{w16, to_be_bytes}
use Rattle.java_names.specs.Names.{is_text}
use Rattle.class_desc.specs.declared.attribute.InnerEntry.{InnerEntry}
use Rattle.class_desc.specs.declared.attribute.ParamEntry.{ParamEntry}
use Rattle.class_desc.specs.Attributes.{InnerSpells, InnerClassesSpell, ParameterSpells}
use Rattle.class_desc.specs.Forms.{IsAnyText}
use Rattle.class_desc.specs.Items.{NamesTextOf, NamesClassOf, OrZero, Numbered, FlagsSpell}
use Rattle.class_desc.specs.Items.{EachSpells}
use Rattle.class_desc.specs.Pool.{Entry}
use Rattle.class_desc.specs.Texts.{total, option_texts, inner_texts, parameter_texts}
use Rattle.pool_reader.specs.declared.fault.ClassFault.{ClassFault}
use Rattle.pool_reader.specs.declared.fault.ClassKind.TheVariants.{F9}
use Rattle.pool_reader.specs.Reading.{◌>>=◌, fault_at, number_at}
use Rattle.pool_reader.specs.Pooled.{rows_of}
use Rattle.pool_reader.proofs.Laws.{Weighs, Reads, bind_ok, ok_is, reads_as, Then, joined}
use Rattle.pool_reader.proofs.Laws.{weighs_then, reads_then, Made, weighs_made}
use Rattle.pool_reader.proofs.Numbers.{NumberSpells, reads_u16}
use Rattle.attribute_reader.specs.declared.forms.Form.TheVariants as form
use Rattle.attribute_reader.specs.Forms.{form_fault}
use Rattle.attribute_reader.specs.Items.{growing, class_checked}
use Rattle.attribute_reader.specs.Attributes.{unseen, name_or_zero_at, class_or_zero_at}
use Rattle.attribute_reader.specs.Attributes.{new_class_checked, inner_name_at, inner_class_at}
use Rattle.attribute_reader.specs.Attributes.{next_inner_class_at}
use Rattle.attribute_reader.specs.Attributes.{inner_classes_at, parameter_at}
use Rattle.attribute_reader.proofs.Adding.{Adding, to_all, from_all}
use Rattle.attribute_reader.proofs.Distinct.{IsNew, AreNew, distinct_new, new_distinct}
use Rattle.attribute_reader.proofs.Distinct.{other_text}
use Rattle.attribute_reader.proofs.FormLaws.{any_text_tells}
use Rattle.attribute_reader.proofs.ItemLaws.{Finds, finds_text, finds_class, weighs_numbered}
use Rattle.attribute_reader.proofs.ItemLaws.{weighs_optional}
use Rattle.attribute_reader.proofs.ListLaws.{Grown, weighs_growing}

-- ---- a text that was not seen

abbrev pub IsUnseen : List (List ℕ) → List ℕ → Type 0
IsUnseen seen text = IsNew is_text other_text seen text

pub unseen_is : (at : ℕ) (text : List ℕ) (seen : List (List ℕ)) (nothing : Unit {0})
    → unseen at text seen ≡ Ok nothing
    → IsUnseen seen text
unseen_is at text seen nothing e = by (list_any (is_text text) seen) refl e
  where
    by : (b : Bool)
        → list_any (is_text text) seen ≡ b
        → cond b (Err (fault_at at F9)) (Ok tt) ≡ Ok nothing
        → list_any (is_text text) seen ≡ false
    by true is e = absurd cc
    by false is e = is

pub is_unseen : (at : ℕ) (text : List ℕ) (seen : List (List ℕ)) → IsUnseen seen text
    → unseen at text seen ≡ Ok tt
is_unseen at text seen new = rw new refl

-- ---- flags, and numbers that may be 0

pub reads_flags : Reads (number_at w16) FlagsSpell
reads_flags = reads_u16

module _ (pool : List Entry) where
  abbrev NameOrZero : Option (List ℕ) → List ℕ → Type 0
  NameOrZero = Numbered (OrZero (NamesTextOf pool IsAnyText))

  abbrev ClassOrZero : Option (List ℕ) → List ℕ → Type 0
  ClassOrZero = Numbered (OrZero (NamesClassOf pool))

  pub reads_name_or_zero : Weighs 0 option_texts (name_or_zero_at (rows_of pool)) NameOrZero
  reads_name_or_zero =
      weighs_optional (finds_text pool (form_fault form.AnyText) IsAnyText any_text_tells)
      (λ text s. let e = s.named in cc)

  pub reads_class_or_zero : Weighs 0 option_texts (class_or_zero_at (rows_of pool)) ClassOrZero
  reads_class_or_zero =
      weighs_optional (finds_class pool) (λ name s. let e = s.named.1 in cc)

  -- ---- parameters

  abbrev ParameterParts : ParamEntry → List ℕ → Type 0
  ParameterParts =
      Then NameOrZero (λ name. Made (λ flags. record { name = name; flags = flags }) FlagsSpell)

  to_parameter : (e : ParamEntry) (text : List ℕ) → ParameterParts e text
      → ParameterSpells pool e text
  to_parameter e text s =
      subst (λ (e : ParamEntry). ParameterSpells pool e text) s.second.is (record {
        front = s.front;
        rest = s.rest;
        whole = s.whole;
        first = s.first;
        second = s.second.spells;
      })

  from_parameter : (e : ParamEntry) (text : List ℕ) → ParameterSpells pool e text
      → ParameterParts e text
  from_parameter e text s = record {
    item = e.name;
    front = s.front;
    rest = s.rest;
    whole = s.whole;
    first = s.first;
    second = record { item = e.flags; is = refl; spells = s.second };
  }

  pub reads_parameter : Weighs 0 parameter_texts (parameter_at (rows_of pool))
      (ParameterSpells pool)
  unfolding parameter_at
  reads_parameter =
      reads_as (ParameterSpells pool)
      (weighs_then
      (λ begun name rest. number_at w16 rest >>= λ flags.
      Ok (record { name = name; flags = flags.0 }, flags.1))
      reads_name_or_zero
      (λ begun name.
      weighs_made (λ flags. record { name = name; flags = flags }) (λ flags. omega arith)
      reads_flags))
      to_parameter
      from_parameter

  -- ---- inner classes

  abbrev fine : List ℕ → Result (List ℕ) ClassFault
  fine name = Ok name

  -- a class that was not seen
  record NewClass (seen : List (List ℕ)) (n : ℕ) (name : List ℕ) : Type 0 where
    class : NamesClassOf pool n name
    new : IsUnseen seen name

  finds_new_class : (seen : List (List ℕ))
      → Finds (new_class_checked (rows_of pool) seen) (NewClass seen)
  finds_new_class seen = record { right = right; again = again }
    where
      right : (at n : ℕ) (name : List ℕ)
          → n < 2 ^ 16
          → new_class_checked (rows_of pool) seen at n ≡ Ok name
          → NewClass seen n name
      right at n name fits e =
          let b = bind_ok (class_checked (rows_of pool) at n)
          (λ name. unseen at name seen >>= λ new. fine name) name e in
          let c = bind_ok (unseen at b.0 seen) (λ new. fine b.0) name b.2 in
          subst (NewClass seen n) (ok_is b.0 name c.2) (record {
            class = (finds_class pool).right at n b.0 fits b.1;
            new = unseen_is at b.0 seen c.0 c.1;
          })

      again : (at n : ℕ) (name : List ℕ)
          → NewClass seen n name
          → new_class_checked (rows_of pool) seen at n ≡ Ok name
      again at n name s =
          ap (λ (r : Result (List ℕ) ClassFault). r >>= λ name. unseen at name seen >>= λ new.
          fine name) ((finds_class pool).again at n name s.class)
          ∙ ap (λ (r : Result (Unit {0}) ClassFault). r >>= λ new. fine name)
          (is_unseen at name seen s.new)

  -- an entry of a class that was not seen
  record NewInner (seen : List (List ℕ)) (e : InnerEntry) (text : List ℕ) : Type 0 where
    new : IsUnseen seen e.inner
    spelled : InnerSpells pool e text

  abbrev InnerParts : List (List ℕ) → InnerEntry → List ℕ → Type 0
  InnerParts seen =
      Then (Numbered (NewClass seen)) (λ inner.
      Then ClassOrZero (λ outer.
      Then NameOrZero (λ name.
      Made (λ flags. record { inner = inner; outer = outer; name = name; flags = flags })
      FlagsSpell)))

  to_inner : (seen : List (List ℕ)) (e : InnerEntry) (text : List ℕ) → InnerParts seen e text
      → NewInner seen e text
  to_inner seen e text s =
      let o = s.second in
      let n = o.second in
      subst (λ (e : InnerEntry). NewInner seen e text) n.second.is (record {
        new = s.first.named.new;
        spelled = record {
          front = s.front;
          rest = s.rest;
          whole = s.whole;
          first = record {
            number = s.first.number;
            fits = s.first.fits;
            named = s.first.named.class;
            is = s.first.is;
          };
          second = record {
            front = o.front;
            rest = o.rest;
            whole = o.whole;
            first = o.first;
            second = record {
              front = n.front;
              rest = n.rest;
              whole = n.whole;
              first = n.first;
              second = n.second.spells;
            };
          };
        };
      })

  from_inner : (seen : List (List ℕ)) (e : InnerEntry) (text : List ℕ) → NewInner seen e text
      → InnerParts seen e text
  from_inner seen e text s =
      let i = s.spelled in
      let o = i.second in
      let n = o.second in
      record {
        item = e.inner;
        front = i.front;
        rest = i.rest;
        whole = i.whole;
        first = record {
          number = i.first.number;
          fits = i.first.fits;
          named = record { class = i.first.named; new = s.new };
          is = i.first.is;
        };
        second = record {
          item = e.outer;
          front = o.front;
          rest = o.rest;
          whole = o.whole;
          first = o.first;
          second = record {
            item = e.name;
            front = n.front;
            rest = n.rest;
            whole = n.whole;
            first = n.first;
            second = record { item = e.flags; is = refl; spells = n.second };
          };
        };
      }

  reads_inner : (seen : List (List ℕ))
      → Weighs 0 inner_texts (inner_class_at (rows_of pool) seen) (NewInner seen)
  unfolding inner_class_at
  reads_inner seen =
      reads_as (NewInner seen)
      (weighs_then
      (λ begun inner rest. class_or_zero_at (rows_of pool) rest >>= λ outer.
      name_or_zero_at (rows_of pool) outer.1 >>= λ name. number_at w16 name.1 >>= λ flags.
      Ok (
        record { inner = inner; outer = outer.0; name = name.0; flags = flags.0 },
        flags.1,
      ))
      (weighs_numbered length (finds_new_class seen))
      (λ begun inner.
      weighs_then
      (λ begun outer rest. name_or_zero_at (rows_of pool) rest >>= λ name.
      number_at w16 name.1 >>= λ flags.
      Ok (record { inner = inner; outer = outer; name = name.0; flags = flags.0 }, flags.1))
      reads_class_or_zero
      (λ begun outer.
      weighs_then
      (λ begun name rest. number_at w16 rest >>= λ flags.
      Ok (record { inner = inner; outer = outer; name = name; flags = flags.0 }, flags.1))
      reads_name_or_zero
      (λ begun name.
      weighs_made
      (λ flags. record { inner = inner; outer = outer; name = name; flags = flags })
      (λ flags. omega arith)
      reads_flags))))
      (to_inner seen)
      (from_inner seen)

  -- ---- the list

  abbrev inner_of : InnerEntry → List ℕ
  inner_of e = e.inner

  abbrev added : InnerEntry → Option InnerEntry
  added e = Some e

  abbrev AddsInner : List InnerEntry → List InnerEntry → List ℕ → Type 0
  AddsInner = Adding is_text other_text added inner_of (InnerSpells pool)

  reads_next : (before : List InnerEntry)
      → Weighs 0 (total inner_texts) (next_inner_class_at (rows_of pool) before)
      (AddsInner before)
  reads_next before =
      reads_as (AddsInner before)
      (weighs_made (λ e. e ∷ []) (λ e. omega arith) (reads_inner (map inner_of before)))
      (λ more text s. to more text s)
      (λ more text s. from more text s)
    where
      to : (more : List InnerEntry) (text : List ℕ)
          → Made (λ e. e ∷ []) (NewInner (map inner_of before)) more text
          → AddsInner before more text
      to more text s =
          subst (λ (m : List InnerEntry). AddsInner before m text) s.is (record {
            item = s.item;
            is = refl;
            new = (s.spells.new, tt);
            spelled = s.spells.spelled;
          })

      from : (more : List InnerEntry) (text : List ℕ)
          → AddsInner before more text
          → Made (λ e. e ∷ []) (NewInner (map inner_of before)) more text
      from more text s =
          let new = subst (λ (m : List InnerEntry).
          AreNew is_text other_text (map inner_of before) (map inner_of m)) (sym s.is) s.new in
          record { item = s.item; is = s.is; spells = record { new = new.0; spelled = s.spelled } }

  all_added : (entries : List InnerEntry) → filter_map added entries ≡ entries
  all_added [] = refl
  all_added (e ∷ entries) = ap (λ (t : List InnerEntry). e ∷ t) (all_added entries)

  abbrev InnersParts : List InnerEntry → List ℕ → Type 0
  InnersParts = Then (NumberSpells w16 (2 ^ 16)) (λ count. Grown AddsInner count [])

  to_inners : (entries : List InnerEntry) (text : List ℕ) → InnersParts entries text
      → InnerClassesSpell pool entries text
  to_inners entries text s =
      let a = to_all is_text other_text added inner_of (InnerSpells pool) s.item [] entries s.rest
      s.second in
      let are : a.items ≡ entries = sym (all_added a.items) ∙ a.are in
      let new : AreNew is_text other_text [] (map inner_of entries) =
      subst (λ (t : List InnerEntry). AreNew is_text other_text [] (map inner_of t)) a.are a.new in
      let len : length entries ≡ s.item = ap length (sym are) ∙ a.length_is in
      record {
        spelled = record {
          rest = s.rest;
          count = subst (λ (n : ℕ). n < 2 ^ 16) (sym len) s.first.0;
          whole = joined s (s.first.1 ∙ ap (to_be_bytes w16) (sym len)) refl;
          each = subst (λ (t : List InnerEntry). EachSpells (InnerSpells pool) t s.rest) are
              a.each;
        };
        distinct = distinct_new is_text other_text (map inner_of entries) new;
      }

  from_inners : (entries : List InnerEntry) (text : List ℕ) → InnerClassesSpell pool entries text
      → InnersParts entries text
  from_inners entries text s =
      let c = s.spelled in
      let new = new_distinct is_text other_text (map inner_of entries) s.distinct in
      record {
        item = length entries;
        front = to_be_bytes w16 (length entries);
        rest = c.rest;
        whole = c.whole;
        first = (c.count, refl);
        second = from_all is_text other_text added inner_of (InnerSpells pool) (length entries) []
            entries c.rest (record {
              items = entries;
              length_is = refl;
              are = all_added entries;
              new = subst (λ (t : List InnerEntry).
                  AreNew is_text other_text [] (map inner_of t)) (sym (all_added entries)) new;
              each = c.each;
            });
      }

  pub reads_inner_classes : Weighs 0 (total inner_texts) (inner_classes_at (rows_of pool))
      (InnerClassesSpell pool)
  unfolding inner_classes_at
  reads_inner_classes =
      reads_as (InnerClassesSpell pool)
      (reads_then (λ begun count. growing (next_inner_class_at (rows_of pool)) [] count) reads_u16
      (λ begun count. weighs_growing inner_texts reads_next count []))
      to_inners
      from_inners
