-- Whether the method that an interface gives isn't abstract.
use Rattle.std.proofs.Common.{◌≡◌, refl, ap, sym, ◌∙◌, ℕ, Bool, true, false, not, Option, Some}
use Rattle.std.proofs.Common.{None}
use Rattle.std.specs.Prelude.{slice_get, option_map, option_and_then}
use Rattle.std.specs.Option.{option_map_or}
use Rattle.class_views.specs.Flags.{has_flag, is_abstract}
use Rattle.class_views.specs.View.{View, MemberView}
use Rattle.class_views.specs.World.{World}
use Rattle.class_views.specs.Resolution.{Declared, NameAndType, declared_by, interface_method_in}
use Rattle.client_view.specs.Members.{picked, declared_at, HasMet}
use Rattle.client_view.specs.Replies.{methods_of}
use Rattle.client_view.specs.Sole.{is_concrete}
use Rattle.client_view.specs.declared.members.Met.{Met}

module _ (world : World) (choice : View → Option MemberView) (n : ℕ) where
  abbrev in_class : View → MemberView → Declared
  in_class c m = record { declarer = c; member = m }

  pub picked_some : (d : Declared) → declared_at world choice n ≡ Some d →
      picked world choice n ≡ Some d.member
  picked_some d e = by (slice_get world n) e
    where
      inside : (c : View) (o : Option MemberView) → option_map (in_class c) o ≡ Some d →
          o ≡ Some d.member
      inside c None e = absurd cc
      inside c (Some m) e =
          let is : in_class c m ≡ d = cc in ap (λ (x : Declared). Some x.member) is

      by : (o : Option View) → option_and_then (declared_by choice) o ≡ Some d →
          option_and_then choice o ≡ Some d.member
      by None e = absurd cc
      by (Some c) e = inside c (choice c) e

  pub picked_none : declared_at world choice n ≡ None → picked world choice n ≡ None
  picked_none e = by (slice_get world n) e
    where
      inside : (c : View) (o : Option MemberView) → option_map (in_class c) o ≡ None → o ≡ None
      inside c None e = refl
      inside c (Some m) e = absurd cc

      by : (o : Option View) → option_and_then (declared_by choice) o ≡ None →
          option_and_then choice o ≡ None
      by None e = refl
      by (Some c) e = inside c (choice c) e

abbrev concrete_of : Option MemberView → Bool
concrete_of o = option_map_or (λ m. not (is_abstract m.flags)) o false

module _ (world : World) (sought : NameAndType) (n : ℕ) where
  pub met_concrete : (met : Met) →
      HasMet world methods_of met (declared_at world (interface_method_in sought) n) →
      not (has_flag 0x0400 met.flags) ≡ is_concrete world sought n
  met_concrete met has =
      ap (λ f. not (is_abstract f)) has.place.flags
      ∙ sym (ap concrete_of (picked_some world (interface_method_in sought) n has.declared
      has.is))

  pub none_concrete : declared_at world (interface_method_in sought) n ≡ None →
      false ≡ is_concrete world sought n
  none_concrete e = sym (ap concrete_of (picked_none world (interface_method_in sought) n e))

  -- such a method is there
  pub concrete_there : is_concrete world sought n ≡ true →
      (d : Declared) × (declared_at world (interface_method_in sought) n ≡ Some d)
  concrete_there t = by (declared_at world (interface_method_in sought) n) refl
    where
      by : (o : Option Declared) → declared_at world (interface_method_in sought) n ≡ o →
          (d : Declared) × (declared_at world (interface_method_in sought) n ≡ Some d)
      by None e = let wrong : false ≡ true = none_concrete e ∙ t in absurd cc
      by (Some d) e = (d, e)
