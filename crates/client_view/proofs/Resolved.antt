-- What is found in one place, else in the next.
use Rattle.std.proofs.Common.{◌≡◌, refl, ap, sym, subst, ◌∙◌, ℕ, List, Option, Some, None, false}
use Rattle.std.proofs.Common.{cond, true}
use Rattle.std.specs.Prelude.{slice_get, option_and_then, option_to_list}
use Rattle.std.specs.Option.{option_or}
use Rattle.class_desc.specs.ClassFile.{object_name}
use Rattle.class_views.specs.View.{View, MemberView}
use Rattle.class_views.specs.World.{World, class_of, chain, is_interface}
use Rattle.class_views.specs.Access.{Client}
use Rattle.class_views.specs.Resolution.{Declared, NameAndType, declared_by, first_declared}
use Rattle.class_views.specs.Resolution.{method_in, object_method_in, from_superinterfaces}
use Rattle.class_views.specs.Resolution.{method_resolution, interface_method_resolution}
use Rattle.class_views.specs.Query.{MethodQuery, InterfaceMethodQuery, WrongKind, answer_in}
use Rattle.class_views.specs.Query.{resolved, ask}
use Rattle.client_view.specs.Members.{declared_at, Meets, replied}
use Rattle.client_view.specs.Numbers.{number_of, AreApart}
use Rattle.client_view.specs.Refusals.{Enters}
use Rattle.client_view.specs.Replies.{Says, IsMemberFound, methods_of}
use Rattle.client_view.specs.declared.members.Met.{Met}
use Rattle.client_view.specs.declared.reply.MemberAt.{MemberAt}
use Rattle.client_view.specs.declared.reply.Reply.{Reply}
use Rattle.client_view.specs.declared.reply.Reply.TheVariants as reply
use Rattle.client_view.proofs.Numbered.{number_is, class_by_number}
use Rattle.client_view.proofs.Said.{resolved_says}

module _ (world : World) (members : View → List MemberView) (a b : Option Declared) where
  pub first_meets : (met : Met) → Meets world members (Some met) a →
      Meets world members (Some met) (option_or a b)
  first_meets met has = record {
    declared = has.declared;
    is = ap (λ o. option_or o b) has.is;
    place = has.place;
  }

  pub next_meets : (met : Option Met) → Meets world members None a → Meets world members met b →
      Meets world members met (option_or a b)
  next_meets met none has =
      subst (λ (o : Option Declared). Meets world members met o)
      (sym (ap (λ o. option_or o b) none)) has

-- what one class declares
or_none : (o : Option Declared) → option_or o None ≡ o
or_none None = refl
or_none (Some d) = refl

pub declared_in_one : (world : World) (choice : View → Option MemberView) (name : List ℕ) →
    first_declared choice (option_to_list (class_of world name))
    ≡ option_and_then (declared_at world choice) (number_of world name)
declared_in_one world choice name =
    ap (λ o. first_declared choice (option_to_list o)) (class_by_number world name)
    ∙ by (number_of world name)
  where
    in_class : (o : Option View) →
        first_declared choice (option_to_list o) ≡ option_and_then (declared_by choice) o
    in_class None = refl
    in_class (Some c) = or_none (declared_by choice c)

    by : (o : Option ℕ) →
        first_declared choice (option_to_list (option_and_then (slice_get world) o))
        ≡ option_and_then (declared_at world choice) o
    by None = refl
    by (Some n) = in_class (slice_get world n)

pub declared_in_itself : (world : World) (apart : AreApart world) (n : ℕ) (c : View) →
    slice_get world n ≡ Some c → (choice : View → Option MemberView) →
    first_declared choice (option_to_list (class_of world c.name)) ≡ declared_at world choice n
declared_in_itself world apart n c at choice =
    declared_in_one world choice c.name
    ∙ ap (option_and_then (declared_at world choice)) (number_is world apart n c at)

module _ (world : World) (name : List ℕ) (sought : NameAndType) where
  pub in_chain : (met : Met) →
      Meets world methods_of (Some met) (first_declared (method_in sought) (chain world name)) →
      Meets world methods_of (Some met) (method_resolution world name sought)
  unfolding method_resolution
  in_chain met has =
      first_meets world methods_of (first_declared (method_in sought) (chain world name))
      (from_superinterfaces world name sought) met has

  pub behind_chain : (met : Option Met) →
      Meets world methods_of None (first_declared (method_in sought) (chain world name)) →
      Meets world methods_of met (from_superinterfaces world name sought) →
      Meets world methods_of met (method_resolution world name sought)
  unfolding method_resolution
  behind_chain met none has =
      next_meets world methods_of (first_declared (method_in sought) (chain world name))
      (from_superinterfaces world name sought) met none has

  abbrev own : Option Declared
  own = first_declared (method_in sought) (option_to_list (class_of world name))

  abbrev shared : Option Declared
  shared = first_declared (object_method_in sought) (option_to_list (class_of world object_name))

  abbrev inherited : Option Declared
  inherited = option_or shared (from_superinterfaces world name sought)

  pub in_itself : (met : Met) → Meets world methods_of (Some met) own →
      Meets world methods_of (Some met) (interface_method_resolution world name sought)
  unfolding interface_method_resolution
  in_itself met has = first_meets world methods_of own inherited met has

  pub behind_itself : (met : Option Met) → Meets world methods_of None own →
      Meets world methods_of met inherited →
      Meets world methods_of met (interface_method_resolution world name sought)
  unfolding interface_method_resolution
  behind_itself met none has = next_meets world methods_of own inherited met none has

  pub in_object : (met : Met) → Meets world methods_of (Some met) shared →
      Meets world methods_of (Some met) inherited
  in_object met has =
      first_meets world methods_of shared (from_superinterfaces world name sought) met has

  pub behind_object : (met : Option Met) → Meets world methods_of None shared →
      Meets world methods_of met (from_superinterfaces world name sought) →
      Meets world methods_of met inherited
  behind_object met none has =
      next_meets world methods_of shared (from_superinterfaces world name sought) met none has

-- ---- the kind of the class, and then the reply

module _ (world : World) (client : Client) (name : List ℕ) (c : View) (sought : NameAndType)
  where
    pub method_wrong : is_interface c ≡ true →
        answer_in world client c (MethodQuery name sought) ≡ WrongKind
    method_wrong t =
        ap (λ b. cond b WrongKind (resolved world client (method_resolution world name sought))) t

    pub interface_method_wrong : is_interface c ≡ false →
        answer_in world client c (InterfaceMethodQuery name sought) ≡ WrongKind
    interface_method_wrong f =
        ap (λ b. cond b
        (resolved world client (interface_method_resolution world name sought)) WrongKind) f

    module _ (met : Option Met) (result : Reply MemberAt) (none : met ≡ None →
        result ≡ reply.NotFound) (some : (one : Met) (v : View) → met ≡ Some one →
        slice_get world one.at.class ≡ Some v → result ≡ replied world client v one) where
      pub method_says : is_interface c ≡ false →
          Meets world methods_of met (method_resolution world name sought) →
          Says world (IsMemberFound world methods_of) result
          (answer_in world client c (MethodQuery name sought))
      method_says f meets =
          subst (Says world (IsMemberFound world methods_of) result)
          (sym (ap (λ b. cond b WrongKind
          (resolved world client (method_resolution world name sought))) f))
          (resolved_says world client methods_of met (method_resolution world name sought) meets
          result none some)

      pub interface_method_says : is_interface c ≡ true →
          Meets world methods_of met (interface_method_resolution world name sought) →
          Says world (IsMemberFound world methods_of) result
          (answer_in world client c (InterfaceMethodQuery name sought))
      interface_method_says t meets =
          subst (Says world (IsMemberFound world methods_of) result)
          (sym (ap (λ b. cond b
          (resolved world client (interface_method_resolution world name sought)) WrongKind) t))
          (resolved_says world client methods_of met
          (interface_method_resolution world name sought) meets result none some)

-- ---- the questions about methods

module _ (world : World) (client : Client) (name : List ℕ) (n : ℕ)
    (enters : Enters world client name n) (sought : NameAndType) (result : Reply MemberAt) where
  pub method_asked : Says world (IsMemberFound world methods_of) result
      (answer_in world client enters.class (MethodQuery enters.class.name sought)) →
      Says world (IsMemberFound world methods_of) result
      (ask world client (MethodQuery name sought))
  method_asked says =
      subst (Says world (IsMemberFound world methods_of) result)
      (sym (enters.answers (MethodQuery name sought) (record { asked = refl; beyond = refl })))
      (subst (λ (s : List ℕ). Says world (IsMemberFound world methods_of) result
      (answer_in world client enters.class (MethodQuery s sought))) enters.named says)

  pub interface_method_asked : Says world (IsMemberFound world methods_of) result
      (answer_in world client enters.class (InterfaceMethodQuery enters.class.name sought)) →
      Says world (IsMemberFound world methods_of) result
      (ask world client (InterfaceMethodQuery name sought))
  interface_method_asked says =
      subst (Says world (IsMemberFound world methods_of) result)
      (sym (enters.answers (InterfaceMethodQuery name sought)
      (record { asked = refl; beyond = refl })))
      (subst (λ (s : List ℕ). Says world (IsMemberFound world methods_of) result
      (answer_in world client enters.class (InterfaceMethodQuery s sought))) enters.named says)
