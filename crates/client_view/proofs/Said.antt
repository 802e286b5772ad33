-- What replies say, from what was met.
use Rattle.std.proofs.Common.{◌≡◌, refl, ap, sym, subst, ℕ, Bool, true, false, cond}
use Rattle.std.proofs.Common.{List, Option, Some, None}
use Rattle.std.specs.Prelude.{slice_get, option_map, option_and_then}
use Rattle.class_views.specs.View.{View, MemberView}
use Rattle.class_views.specs.World.{World}
use Rattle.class_views.specs.Flags.{access_of}
use Rattle.class_views.specs.Access.{Client, may_access, is_accessible}
use Rattle.class_views.specs.Resolution.{Declared, NameAndType, field_resolution}
use Rattle.class_views.specs.Query.{Answer, Finding, Found, NotAccessible, MemberFound}
use Rattle.class_views.specs.Query.{resolved, reply as reply_to, ask, FieldQuery}
use Rattle.client_view.specs.Members.{member_at, Meets, IsMet, replied}
use Rattle.client_view.specs.Refusals.{Enters}
use Rattle.client_view.specs.Replies.{Says, IsMemberFound, fields_of}
use Rattle.client_view.specs.declared.members.Met.{Met}
use Rattle.client_view.specs.declared.reply.MemberAt.{MemberAt}
use Rattle.client_view.specs.declared.reply.Reply.{Reply}
use Rattle.client_view.specs.declared.reply.Reply.TheVariants as reply

-- the class and the member of a place
pub record Placed (world : World) (members : View → List MemberView) (at : MemberAt)
    (declared : Declared) : Type 0 where
  pub there : slice_get world at.class ≡ Some declared.declarer
  pub among : slice_get (members declared.declarer) at.index ≡ Some declared.member

pub placed : (world : World) (members : View → List MemberView) (at : MemberAt)
    (declared : Declared) → member_at world members at ≡ Some declared →
    Placed world members at declared
placed world members at declared e = by (slice_get world at.class) refl e
  where
    here : (c : View) → slice_get world at.class ≡ Some c → (o : Option MemberView) →
        slice_get (members c) at.index ≡ o →
        option_map (λ m. record { declarer = c; member = m }) o ≡ Some declared →
        Placed world members at declared
    here c there None f e = absurd cc
    here c there (Some m) f e =
        let is : record { declarer = c; member = m } ≡ declared = cc in
        subst (λ (d : Declared). Placed world members at d) is
        (record { there = there; among = f })

    by : (o : Option View) → slice_get world at.class ≡ o →
        option_and_then
        (λ c. option_map (λ m. record { declarer = c; member = m })
        (slice_get (members c) at.index)) o ≡ Some declared →
        Placed world members at declared
    by None there e = absurd cc
    by (Some c) there e = here c there (slice_get (members c) at.index) refl e

module _ (world : World) (client : Client) (members : View → List MemberView)
    (IsFound : MemberAt → Finding → Type 0) where
  -- a member that was met, where something is found of it
  pub met_says : (met : Met) (d : Declared) → IsMet world members met d → (finding : Finding) →
      IsFound met.at finding → Says world IsFound (replied world client d.declarer met)
      (reply_to world client d.declarer.name d.member finding)
  met_says met d is finding found = whole
    where
      at : Placed world members met.at d
      at = placed world members met.at d is.there

      same : may_access world client d.declarer.name (access_of met.flags)
          ≡ is_accessible world client d.declarer.name d.member
      same = ap (λ f. may_access world client d.declarer.name (access_of f)) is.flags

      granted : Says world IsFound (reply.Found met.at) (Found finding)
      granted = record { finding = finding; there = found; is = refl }

      refused : Says world IsFound (reply.NotAccessible met.at.class)
          (NotAccessible d.declarer.name)
      refused = record { class = d.declarer; there = at.there; is = refl }

      chosen : (b : Bool) → Says world IsFound
          (cond b (reply.Found met.at) (reply.NotAccessible met.at.class))
          (cond b (Found finding) (NotAccessible d.declarer.name))
      chosen true = granted
      chosen false = refused

      whole : Says world IsFound (replied world client d.declarer met)
          (reply_to world client d.declarer.name d.member finding)
      whole =
          subst (λ (b : Bool). Says world IsFound (replied world client d.declarer met)
          (cond b (Found finding) (NotAccessible d.declarer.name))) same
          (chosen (may_access world client d.declarer.name (access_of met.flags)))

module _ (world : World) (client : Client) (members : View → List MemberView) where
  abbrev Member : Reply MemberAt → Answer → Type 0
  Member result answer = Says world (IsMemberFound world members) result answer

  pub resolved_says : (met : Option Met) (sought : Option Declared) →
      Meets world members met sought → (result : Reply MemberAt) →
      (met ≡ None → result ≡ reply.NotFound) →
      ((one : Met) (c : View) → met ≡ Some one → slice_get world one.at.class ≡ Some c →
      result ≡ replied world client c one) → Member result (resolved world client sought)
  resolved_says None sought is result none some =
      subst (λ (r : Reply MemberAt). Member r (resolved world client sought)) (sym (none refl))
      (ap (resolved world client) is)
  resolved_says (Some met) sought has result none some =
      let d = has.declared in
      let at = placed world members met.at d has.place.there in
      subst (λ (r : Reply MemberAt). Member r (resolved world client sought))
      (sym (some met d.declarer refl at.there))
      (subst (λ (o : Option Declared). Member (replied world client d.declarer met)
      (resolved world client o)) (sym has.is)
      (met_says world client members (IsMemberFound world members) met d has.place
      (MemberFound d.declarer.name d.member) (record {
        class = d.declarer;
        member = d.member;
        at_place = record { there = at.there; among = at.among };
        is = refl;
      })))

-- what resolution answers, from the class that the question goes into
module _ (world : World) (client : Client) (name : List ℕ) (n : ℕ)
    (enters : Enters world client name n) (met : Option Met) (result : Reply MemberAt)
    (none : met ≡ None → result ≡ reply.NotFound)
    (some : (one : Met) (c : View) → met ≡ Some one → slice_get world one.at.class ≡ Some c →
    result ≡ replied world client c one) where
  pub field_says : (sought : NameAndType) →
      Meets world fields_of met (field_resolution world enters.class.name sought) →
      Says world (IsMemberFound world fields_of) result (ask world client (FieldQuery name sought))
  field_says sought meets =
      subst (Says world (IsMemberFound world fields_of) result)
      (sym (enters.answers (FieldQuery name sought) (record { asked = refl; beyond = refl })))
      (resolved_says world client fields_of met (field_resolution world name sought)
      (subst (λ (s : List ℕ). Meets world fields_of met (field_resolution world s sought))
      enters.named meets) result none some)
