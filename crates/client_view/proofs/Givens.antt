-- The methods that interfaces give, and those that they have of java/lang/Object, by places.
use Rattle.std.proofs.Common.{◌≡◌, refl, ap, sym, subst, ◌∙◌, ℕ, ◌⊎◌, inl, inr, true, false}
use Rattle.std.proofs.Common.{cond, not, List, map, length, Option, Some, None}
use Rattle.std.specs.Prelude.{slice_get, find, position, is_some, if◌then◌else◌, IfSome, ◌<◌, ◌&&◌}
use Rattle.std.proofs.lemmas.Bool.{cases_Bool}
use Rattle.class_desc.specs.declared.class.ClassDesc.{ClassDesc}
use Rattle.class_views.specs.Flags.{has_flag, is_static}
use Rattle.class_views.specs.View.{view_of_desc, view_of_method}
use Rattle.class_views.specs.Resolution.{NameAndType, is_meant, is_given, object_method_in}
use Rattle.class_views.specs.Resolution.{interface_method_in}
use Rattle.client_view.specs.Members.{declares, declared_at, Meets}
use Rattle.client_view.specs.Numbers.{views}
use Rattle.client_view.specs.Replies.{methods_of}
use Rattle.client_view.specs.declared.members.Met.{Met}
use Rattle.client_view.proofs.Choosing.{chosen_declares, chosen_meets}
use Rattle.client_view.proofs.Meeting.{none_met, declares_there}
use Rattle.client_view.proofs.Methods.{MethodTells, items, flags_of}
use Rattle.client_view.proofs.Placed.{position_within}

module _ (classes : List ClassDesc) (n : ℕ) (d : ClassDesc) (sought : NameAndType)
    (at : slice_get classes n ≡ Some d) where
  pub shared_meets : (o : Option ℕ) →
      o ≡ position (λ m. is_meant sought (view_of_method m) && has_flag 0x0001 m.flags
      && not (has_flag 0x0008 m.flags)) d.methods → (met : Option Met) → MethodTells d n o met →
      Meets (views classes) methods_of met
      (declared_at (views classes) (object_method_in sought) n)
  shared_meets o e met tells =
      chosen_meets items view_of_method flags_of (λ m. refl) methods_of (λ e. refl) classes n d
      at (object_method_in sought) (λ m. is_meant sought m && has_flag 0x0001 m.flags
      && not (is_static m.flags)) refl o e met tells

  abbrev places : Option ℕ
  places = position (λ m. is_given sought (view_of_method m)) d.methods

  abbrev pub given_place : Option ℕ
  given_place = if has_flag 0x0200 d.flags then places else None

  pub given_within : (o : Option ℕ) → o ≡ given_place → IfSome o (λ i. i < length d.methods)
  given_within o e = by (cases_Bool (has_flag 0x0200 d.flags))
    where
      by : (has_flag 0x0200 d.flags ≡ true) ⊎ (has_flag 0x0200 d.flags ≡ false) →
          IfSome o (λ i. i < length d.methods)
      by (inl t) =
          position_within (λ m. is_given sought (view_of_method m)) d.methods o
          (e ∙ ap (λ b. cond b places None) t)
      by (inr f) =
          subst (λ (p : Option ℕ). IfSome p (λ i. i < length d.methods))
          (sym (e ∙ ap (λ b. cond b places None) f)) tt

  interface_chosen : has_flag 0x0200 d.flags ≡ true →
      interface_method_in sought (view_of_desc d)
      ≡ find (is_given sought) (map view_of_method d.methods)
  interface_chosen t =
      ap (λ b. cond b (find (is_given sought) (map view_of_method d.methods)) None) t

  class_chosen : has_flag 0x0200 d.flags ≡ false →
      interface_method_in sought (view_of_desc d) ≡ None
  class_chosen f =
      ap (λ b. cond b (find (is_given sought) (map view_of_method d.methods)) None) f

  pub given_declares : (o : Option ℕ) → o ≡ given_place →
      is_some o ≡ declares (views classes) (interface_method_in sought) n
  given_declares o e = by (cases_Bool (has_flag 0x0200 d.flags))
    where
      by : (has_flag 0x0200 d.flags ≡ true) ⊎ (has_flag 0x0200 d.flags ≡ false) →
          is_some o ≡ declares (views classes) (interface_method_in sought) n
      by (inl t) =
          chosen_declares items view_of_method flags_of (λ m. refl) methods_of (λ e. refl) classes
          n d at (interface_method_in sought) (is_given sought) (interface_chosen t) o
          (e ∙ ap (λ b. cond b places None) t)
      by (inr f) =
          ap is_some (e ∙ ap (λ b. cond b places None) f)
          ∙ sym (declares_there classes n d at (interface_method_in sought)
          ∙ ap is_some (class_chosen f))

  pub given_meets : (o : Option ℕ) → o ≡ given_place → (met : Option Met) →
      MethodTells d n o met → Meets (views classes) methods_of met
      (declared_at (views classes) (interface_method_in sought) n)
  given_meets o e met tells = by (cases_Bool (has_flag 0x0200 d.flags))
    where
      by : (has_flag 0x0200 d.flags ≡ true) ⊎ (has_flag 0x0200 d.flags ≡ false) →
          Meets (views classes) methods_of met
          (declared_at (views classes) (interface_method_in sought) n)
      by (inl t) =
          chosen_meets items view_of_method flags_of (λ m. refl) methods_of (λ e. refl) classes n
          d at (interface_method_in sought) (is_given sought) (interface_chosen t) o
          (e ∙ ap (λ b. cond b places None) t) met tells
      by (inr f) =
          subst (λ (m : Option Met). Meets (views classes) methods_of m
          (declared_at (views classes) (interface_method_in sought) n))
          (sym (subst (λ (p : Option ℕ). MethodTells d n p met)
          (e ∙ ap (λ b. cond b places None) f) tells))
          (none_met classes n d at (interface_method_in sought) (class_chosen f))
