-- The place of a member that a class declares.
use Rattle.std.proofs.Common.{◌≡◌, refl, ap, sym, subst, ◌∙◌, ℕ, ◌<◌, List, map, length}
use Rattle.std.proofs.Common.{Option, Some, None}
use Rattle.std.specs.Prelude.{slice_get, option_map, option_and_then, is_some, false, position}
use Rattle.std.specs.Prelude.{MatchOption, IfSome}
use Rattle.std.specs.Borrow.{Bor}
use Rattle.std.specs.Slice.{IsItemAt}
use Rattle.std.proofs.lemmas.Option.{slice_get-map, slice_get_read, slice_get_past}
use Rattle.class_desc.specs.declared.class.ClassDesc.{ClassDesc}
use Rattle.class_desc.specs.declared.class.FieldDesc.{FieldDesc}
use Rattle.class_views.specs.View.{View, MemberView, view_of_desc, view_of_field}
use Rattle.class_views.specs.Resolution.{Declared, NameAndType, declared_by, is_meant, field_in}
use Rattle.client_view.specs.Numbers.{views}
use Rattle.client_view.specs.Members.{declares, declared_at, HasMet, Meets}
use Rattle.client_view.specs.Replies.{fields_of}
use Rattle.client_view.specs.declared.members.Met.{Met}
use Rattle.client_view.proofs.Graphs.{get_there}
use Rattle.client_view.proofs.Placed.{found_placed, is_placed, position_within}

-- no class, no member
pub absent_met : (classes : List ClassDesc) (n : ℕ) (choice : View → Option MemberView) →
    slice_get classes n ≡ None → declared_at (views classes) choice n ≡ None
absent_met classes n choice e =
    ap (option_and_then (declared_by choice))
    (slice_get-map view_of_desc classes n ∙ ap (option_map view_of_desc) e)

pub absent_declares : (classes : List ClassDesc) (n : ℕ) (choice : View → Option MemberView) →
    slice_get classes n ≡ None → declares (views classes) choice n ≡ false
absent_declares classes n choice e =
    ap (λ o. is_some (option_and_then choice o))
    (slice_get-map view_of_desc classes n ∙ ap (option_map view_of_desc) e)

module _ (classes : List ClassDesc) (n : ℕ) (d : ClassDesc)
    (at : slice_get classes n ≡ Some d) (choice : View → Option MemberView) where
  pub view_there : slice_get (views classes) n ≡ Some (view_of_desc d)
  view_there = slice_get-map view_of_desc classes n ∙ ap (option_map view_of_desc) at

  pub declares_there : declares (views classes) choice n ≡ is_some (choice (view_of_desc d))
  declares_there = ap (λ o. is_some (option_and_then choice o)) view_there

  declared : (o : Option MemberView) → choice (view_of_desc d) ≡ o →
      declared_at (views classes) choice n
      ≡ option_map (λ m. record { declarer = view_of_desc d; member = m }) o
  declared o e =
      ap (option_and_then (declared_by choice)) view_there
      ∙ ap (option_map (λ m. record { declarer = view_of_desc d; member = m })) e

  pub none_met : choice (view_of_desc d) ≡ None → declared_at (views classes) choice n ≡ None
  none_met e = declared None e

  pub some_met : (members : View → List MemberView) (m : MemberView) (met : Met) →
      met.at.class ≡ n → choice (view_of_desc d) ≡ Some m →
      slice_get (members (view_of_desc d)) met.at.index ≡ Some m → met.flags ≡ m.flags →
      HasMet (views classes) members met (declared_at (views classes) choice n)
  some_met members m met is e there flags =
      let one : Declared = record { declarer = view_of_desc d; member = m } in
      record {
        declared = one;
        is = declared (Some m) e;
        place = record {
          there =
              ap (λ k. option_and_then
              (λ c. option_map (λ m. record { declarer = c; member = m })
              (slice_get (members c) met.at.index)) (slice_get (views classes) k)) is
              ∙ ap (option_and_then (λ c. option_map (λ m. record { declarer = c; member = m })
              (slice_get (members c) met.at.index))) view_there
              ∙ ap (option_map (λ m. record { declarer = view_of_desc d; member = m })) there;
          flags = flags;
        };
      }

-- ---- what `get` lends

pub got : {A : Type 0} (xs : List A) (i : ℕ) (r : Option (Bor A)) → IsItemAt xs i r →
    MatchOption r (slice_get xs i ≡ None) (λ x. slice_get xs i ≡ Some x.now)
got xs i None h = slice_get_past xs i h.3
got xs i (Some x) h = slice_get_read xs (length xs) i x.now refl h.3.0 h.1

-- ---- fields

field_choice : (d : ClassDesc) (sought : NameAndType) → field_in sought (view_of_desc d)
    ≡ option_and_then (slice_get (map view_of_field d.fields))
    (position (λ f. is_meant sought (view_of_field f)) d.fields)
field_choice d sought = found_placed view_of_field (is_meant sought) d.fields

pub field_declares : (classes : List ClassDesc) (n : ℕ) (d : ClassDesc) (sought : NameAndType) →
    slice_get classes n ≡ Some d → (o : Option ℕ) →
    o ≡ position (λ f. is_meant sought (view_of_field f)) d.fields →
    is_some o ≡ declares (views classes) (field_in sought) n
field_declares classes n d sought at o e =
    ap is_some e ∙ sym (is_placed view_of_field (is_meant sought) d.fields)
    ∙ sym (declares_there classes n d at (field_in sought))

-- what a place tells
abbrev pub AtPlace : ClassDesc → ℕ → Option ℕ → Option Met → Type 0
AtPlace d n place met =
    MatchOption place (met ≡ None) (λ index. IfSome (slice_get d.fields index)
    (λ f. met ≡ Some (record { at = record { class = n; index = index }; flags = f.flags })))

pub field_meets : (classes : List ClassDesc) (n : ℕ) (d : ClassDesc) (sought : NameAndType) →
    slice_get classes n ≡ Some d → (place : Option ℕ) →
    place ≡ position (λ f. is_meant sought (view_of_field f)) d.fields → (met : Option Met) →
    AtPlace d n place met →
    Meets (views classes) fields_of met (declared_at (views classes) (field_in sought) n)
field_meets classes n d sought at None e met tells =
    subst (λ (m : Option Met). Meets (views classes) fields_of m
    (declared_at (views classes) (field_in sought) n)) (sym tells)
    (none_met classes n d at (field_in sought)
    (field_choice d sought
    ∙ ap (option_and_then (slice_get (map view_of_field d.fields))) (sym e)))
field_meets classes n d sought at (Some index) e met tells =
    by (slice_get d.fields index) refl tells
  where
    by : (o : Option FieldDesc) → slice_get d.fields index ≡ o →
        IfSome o (λ f. met ≡ Some (record {
          at = record { class = n; index = index };
          flags = f.flags;
        })) → Meets (views classes) fields_of met
        (declared_at (views classes) (field_in sought) n)
    by None none tells =
        let few = position_within (λ f. is_meant sought (view_of_field f)) d.fields
        (Some index) e in
        let there = get_there d.fields index few in
        let wrong : None ≡ Some there.0 = sym none ∙ there.1 in absurd cc
    by (Some f) there tells =
        let seen : slice_get (map view_of_field d.fields) index ≡ Some (view_of_field f) =
        slice_get-map view_of_field d.fields index ∙ ap (option_map view_of_field) there in
        subst (λ (m : Option Met). Meets (views classes) fields_of m
        (declared_at (views classes) (field_in sought) n)) (sym tells)
        (some_met classes n d at (field_in sought) fields_of (view_of_field f) (record {
          at = record { class = n; index = index };
          flags = f.flags;
        }) refl (field_choice d sought
        ∙ ap (option_and_then (slice_get (map view_of_field d.fields))) (sym e) ∙ seen) seen refl)

pub field_small : (d : ClassDesc) (n : ℕ) (place : Option ℕ) (met : Option Met) →
    AtPlace d n place met → IfSome place (λ i. i < length d.fields) → (size : ℕ) → n < size →
    IfSome met (λ m. m.at.class < size)
field_small d n None met tells within size few =
    subst (λ (m : Option Met). IfSome m (λ x. x.at.class < size)) (sym tells) tt
field_small d n (Some index) met tells within size few =
    let there = get_there d.fields index within in
    let is : met ≡ Some (record {
      at = record { class = n; index = index };
      flags = there.0.flags;
    }) =
    subst (λ (o : Option FieldDesc). IfSome o (λ f. met ≡ Some (record {
      at = record { class = n; index = index };
      flags = f.flags;
    }))) there.1 tells in
    subst (λ (m : Option Met). IfSome m (λ x. x.at.class < size)) (sym is) few
