-- The place of a member that a class declares, whatever is asked of it.
use Rattle.std.proofs.Common.{◌≡◌, refl, ap, sym, subst, ◌∙◌, ℕ, ◌<◌, Bool, List, map, length}
use Rattle.std.proofs.Common.{Option}
use Rattle.std.proofs.Common.{Some, None}
use Rattle.std.specs.Prelude.{slice_get, find, position, option_map, option_and_then, is_some}
use Rattle.std.specs.Prelude.{MatchOption, IfSome}
use Rattle.std.proofs.lemmas.Option.{slice_get-map}
use Rattle.class_desc.specs.declared.class.ClassDesc.{ClassDesc}
use Rattle.class_views.specs.View.{View, MemberView, view_of_desc}
use Rattle.client_view.specs.Members.{declares, declared_at, Meets}
use Rattle.client_view.specs.Numbers.{views}
use Rattle.client_view.specs.declared.members.Met.{Met}
use Rattle.client_view.proofs.Graphs.{get_there}
use Rattle.client_view.proofs.Meeting.{none_met, some_met, declares_there}
use Rattle.client_view.proofs.Placed.{found_placed, is_placed, position_within}

-- the members of a kind
module _ {A : Type 0} (items : ClassDesc → List A) (see : A → MemberView) (flags : A → ℕ)
    (same : (x : A) → flags x ≡ (see x).flags) (members : View → List MemberView)
    (shown : (d : ClassDesc) → members (view_of_desc d) ≡ map see (items d)) where
  -- what a place tells
  abbrev pub Tells : ClassDesc → ℕ → Option ℕ → Option Met → Type 0
  Tells d n place met =
      MatchOption place (met ≡ None) (λ index. IfSome (slice_get (items d) index)
      (λ x. met ≡ Some (record { at = record { class = n; index = index }; flags = flags x })))

  pub chosen_small : (d : ClassDesc) (n : ℕ) (place : Option ℕ) (met : Option Met) →
      Tells d n place met → IfSome place (λ i. i < length (items d)) → (size : ℕ) → n < size →
      IfSome met (λ m. m.at.class < size)
  chosen_small d n None met tells within size few =
      subst (λ (m : Option Met). IfSome m (λ x. x.at.class < size)) (sym tells) tt
  chosen_small d n (Some index) met tells within size few =
      let there = get_there (items d) index within in
      let is : met ≡ Some (record {
        at = record { class = n; index = index };
        flags = flags there.0;
      }) =
      subst (λ (o : Option A). IfSome o (λ x. met ≡ Some (record {
        at = record { class = n; index = index };
        flags = flags x;
      }))) there.1 tells in
      subst (λ (m : Option Met). IfSome m (λ x. x.at.class < size)) (sym is) few

  module _ (classes : List ClassDesc) (n : ℕ) (d : ClassDesc)
      (at : slice_get classes n ≡ Some d) (choice : View → Option MemberView)
      (test : MemberView → Bool)
      (chosen : choice (view_of_desc d) ≡ find test (map see (items d))) where
    pub chosen_placed : (place : Option ℕ) → place ≡ position (λ x. test (see x)) (items d) →
        choice (view_of_desc d) ≡ option_and_then (slice_get (map see (items d))) place
    chosen_placed place e =
        chosen ∙ found_placed see test (items d)
        ∙ ap (option_and_then (slice_get (map see (items d)))) (sym e)

    pub chosen_declares : (place : Option ℕ) → place ≡ position (λ x. test (see x)) (items d) →
        is_some place ≡ declares (views classes) choice n
    chosen_declares place e =
        ap is_some e ∙ sym (is_placed see test (items d)) ∙ ap is_some (sym chosen)
        ∙ sym (declares_there classes n d at choice)

    pub chosen_meets : (place : Option ℕ) → place ≡ position (λ x. test (see x)) (items d) →
        (met : Option Met) → Tells d n place met →
        Meets (views classes) members met (declared_at (views classes) choice n)
    chosen_meets None e met tells =
        subst (λ (m : Option Met). Meets (views classes) members m
        (declared_at (views classes) choice n)) (sym tells)
        (none_met classes n d at choice (chosen_placed None e))
    chosen_meets (Some index) e met tells = by (slice_get (items d) index) refl tells
      where
        by : (o : Option A) → slice_get (items d) index ≡ o →
            IfSome o (λ x. met ≡ Some (record {
              at = record { class = n; index = index };
              flags = flags x;
            })) → Meets (views classes) members met (declared_at (views classes) choice n)
        by None none tells =
            let few = position_within (λ x. test (see x)) (items d) (Some index) e in
            let there = get_there (items d) index few in
            let wrong : None ≡ Some there.0 = sym none ∙ there.1 in absurd cc
        by (Some x) there tells =
            let seen : slice_get (map see (items d)) index ≡ Some (see x) =
            slice_get-map see (items d) index ∙ ap (option_map see) there in
            subst (λ (m : Option Met). Meets (views classes) members m
            (declared_at (views classes) choice n)) (sym tells)
            (some_met classes n d at choice members (see x) (record {
              at = record { class = n; index = index };
              flags = flags x;
            }) refl (chosen_placed (Some index) e ∙ seen)
            (ap (λ l. slice_get l index) (shown d) ∙ seen) (same x))
