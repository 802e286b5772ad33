-- What is found of a member that a class itself declares.
use Rattle.std.proofs.Common.{◌≡◌, refl, ap, sym, subst, ◌∙◌, ℕ, Bool, true, false, cond, ◌&&◌}
use Rattle.std.proofs.Common.{List, [], ◌∷◌, Option, Some, None}
use Rattle.std.specs.Prelude.{slice_get, find, is_some, option_map, option_and_then}
use Rattle.std.specs.Option.{option_or}
use Rattle.std.proofs.lemmas.Bool.{and_parts}
use Rattle.class_desc.specs.declared.value.Value.{Value}
use Rattle.class_views.specs.View.{View, MemberView}
use Rattle.class_views.specs.World.{World}
use Rattle.class_views.specs.Access.{Client}
use Rattle.class_views.specs.Resolution.{Declared, declared_by}
use Rattle.class_views.specs.Query.{Answer, Finding, NotFound, ConstantFound, AnnotationsFound}
use Rattle.class_views.specs.Query.{is_final_field, first_constant, constant_answer, ask}
use Rattle.class_views.specs.Query.{ConstantQuery, AnnotationsQuery, Part, annotations_answer}
use Rattle.class_views.specs.Query.{annotations_at, reply as reply_to}
use Rattle.client_view.specs.Members.{declared_at, constant_in_class, Meets, replied}
use Rattle.client_view.specs.Refusals.{Enters, class_reply}
use Rattle.client_view.specs.Replies.{Says, IsConstantFound, IsAnnotationsFound, annotations_in}
use Rattle.client_view.specs.Replies.{fields_of}
use Rattle.client_view.specs.declared.members.Met.{Met}
use Rattle.client_view.specs.declared.reply.MemberAt.{MemberAt}
use Rattle.client_view.specs.declared.reply.Reply.{Reply}
use Rattle.client_view.specs.declared.reply.Reply.TheVariants as reply
use Rattle.client_view.proofs.Said.{Placed, placed, met_says}

-- what an answer says of a member
pub record Gives (world : World) (client : Client) (IsFound : MemberAt → Finding → Type 0)
    (at : MemberAt) (d : Declared) (answer : Answer) : Type 0 where
  pub finding : Finding
  pub found : IsFound at finding
  pub is : answer ≡ reply_to world client d.declarer.name d.member finding

module _ (world : World) (n : ℕ) (c : View) (at : slice_get world n ≡ Some c)
    (choice : View → Option MemberView) where
  abbrev in_class : MemberView → Declared
  in_class m = record { declarer = c; member = m }

  chosen : declared_at world choice n ≡ option_map in_class (choice c)
  chosen = ap (option_and_then (declared_by choice)) at

  pub not_taken : declared_at world choice n ≡ None → choice c ≡ None
  not_taken e = by (choice c) refl (sym chosen ∙ e)
    where
      by : (o : Option MemberView) → choice c ≡ o → option_map in_class o ≡ None →
          choice c ≡ None
      by None f g = f
      by (Some m) f g = absurd cc

  -- the member that the class has
  pub record Taken (d : Declared) : Type 0 where
    pub class_is : c ≡ d.declarer
    pub has : choice c ≡ Some d.member

  pub taken : (d : Declared) → declared_at world choice n ≡ Some d → Taken d
  taken d e = by (choice c) refl (sym chosen ∙ e)
    where
      by : (o : Option MemberView) → choice c ≡ o → option_map in_class o ≡ Some d → Taken d
      by None f g = absurd cc
      by (Some m) f g =
          let is : in_class m ≡ d = cc in
          record {
            class_is = ap (λ (x : Declared). x.declarer) is;
            has = f ∙ ap (λ (x : Declared). Some x.member) is;
          }

  pub own_says : (client : Client) (members : View → List MemberView)
      (IsFound : MemberAt → Finding → Type 0) (met : Option Met) (answer : Answer) →
      Meets world members met (declared_at world choice n) → (result : Reply MemberAt) →
      (met ≡ None → result ≡ reply.NotFound) →
      ((one : Met) (v : View) → met ≡ Some one → slice_get world one.at.class ≡ Some v →
      result ≡ replied world client v one) → (choice c ≡ None → answer ≡ NotFound) →
      ((place : MemberAt) (d : Declared) → Taken d → Placed world members place d →
      Gives world client IsFound place d answer) → Says world IsFound result answer
  own_says client members IsFound None answer is result none some nothing given =
      subst (λ (r : Reply MemberAt). Says world IsFound r answer) (sym (none refl))
      (nothing (not_taken is))
  own_says client members IsFound (Some met) answer has result none some nothing given =
      let d = has.declared in
      let there = placed world members met.at d has.place.there in
      let gives = given met.at d (taken d has.is) there in
      subst (λ (r : Reply MemberAt). Says world IsFound r answer)
      (sym (some met d.declarer refl there.there))
      (subst (Says world IsFound (replied world client d.declarer met)) (sym gives.is)
      (met_says world client members IsFound met d has.place gives.finding gives.found))

-- ---- constants

found_passes : {A : Type 0} (test : A → Bool) (xs : List A) (x : A) → find test xs ≡ Some x →
    test x ≡ true
found_passes test [] x e = absurd cc
found_passes test (y ∷ xs) x e = by (test y) refl (found_passes test xs x) e
  where
    by : (b : Bool) → test y ≡ b → (find test xs ≡ Some x → test x ≡ true) →
        cond b (Some y) (find test xs) ≡ Some x → test x ≡ true
    by true t more f = let is : y ≡ x = cc in sym (ap test is) ∙ t
    by false t more f = more f

abbrev is_held : List ℕ → MemberView → Bool
is_held name m = is_final_field name m && is_some m.constant

abbrev with_constant : MemberView → Option (MemberView × Value)
with_constant m = option_map (λ value. (m, value)) m.constant

constant_found : (name : List ℕ) (fields : List MemberView) →
    first_constant name fields
    ≡ option_and_then with_constant (find (is_held name) fields)
constant_found name [] = refl
constant_found name (m ∷ fields) =
    by (is_final_field name m) m.constant refl (constant_found name fields)
  where
    by : (b : Bool) (o : Option Value) → m.constant ≡ o →
        first_constant name fields ≡ option_and_then with_constant (find (is_held name) fields) →
        option_or (cond b (option_map (λ value. (m, value)) o) None) (first_constant name fields)
        ≡ option_and_then with_constant
        (cond (b && is_some o) (Some m) (find (is_held name) fields))
    by false o e more = more
    by true None e more = more
    by true (Some value) e more = sym (ap (option_map (λ v. (m, v))) e)

module _ (world : World) (client : Client) (n : ℕ) (c : View)
    (at : slice_get world n ≡ Some c) (name : List ℕ) where
  abbrev constant_told : Answer
  constant_told = constant_answer world client c (first_constant name c.fields)

  abbrev IsFound : MemberAt → Finding → Type 0
  IsFound place finding = IsConstantFound world c.name name place finding

  nothing : constant_in_class name c ≡ None → constant_told ≡ NotFound
  nothing e =
      ap (constant_answer world client c)
      (constant_found name c.fields ∙ ap (option_and_then with_constant) e)

  given : (place : MemberAt) (d : Declared) →
      Taken world n c at (constant_in_class name) d → Placed world fields_of place d →
      Gives world client IsFound place d constant_told
  given place d t there = by d.member.constant refl
    where
      by : (o : Option Value) → d.member.constant ≡ o →
          Gives world client IsFound place d constant_told
      by None f =
          let passes = (and_parts (is_final_field name d.member) (is_some d.member.constant)
          (found_passes (is_held name) c.fields d.member t.has)).1 in
          let wrong : false ≡ true = sym (ap is_some f) ∙ passes in absurd cc
      by (Some value) f = record {
        finding = ConstantFound value;
        found = record {
          class = d.declarer;
          field = d.member;
          value = value;
          at_place = record { there = there.there; among = there.among };
          named = ap (λ (v : View). v.name) (sym t.class_is);
          first = ap (constant_in_class name) (sym t.class_is) ∙ t.has;
          held = f;
          is = refl;
        };
        is =
            ap (constant_answer world client c)
            (constant_found name c.fields ∙ ap (option_and_then with_constant) t.has
            ∙ ap (option_map (λ v. (d.member, v))) f)
            ∙ ap (λ (v : View). reply_to world client v.name d.member (ConstantFound value))
            t.class_is;
      }

  pub constant_says : (met : Option Met) →
      Meets world fields_of met (declared_at world (constant_in_class name) n) →
      (result : Reply MemberAt) → (met ≡ None → result ≡ reply.NotFound) →
      ((one : Met) (v : View) → met ≡ Some one → slice_get world one.at.class ≡ Some v →
      result ≡ replied world client v one) → Says world IsFound result constant_told
  constant_says met meets result none some =
      own_says world n c at (constant_in_class name) client fields_of IsFound met constant_told
      meets result none some nothing given

pub constant_asked : (world : World) (client : Client) (name : List ℕ) (n : ℕ)
    (enters : Enters world client name n) (field : List ℕ) (met : Option Met) →
    Meets world fields_of met (declared_at world (constant_in_class field) n) →
    (result : Reply MemberAt) → (met ≡ None → result ≡ reply.NotFound) →
    ((one : Met) (v : View) → met ≡ Some one → slice_get world one.at.class ≡ Some v →
    result ≡ replied world client v one) →
    Says world (IsConstantFound world name field) result
    (ask world client (ConstantQuery name field))
constant_asked world client name n enters field met meets result none some =
    subst (Says world (IsConstantFound world name field) result)
    (sym (enters.answers (ConstantQuery name field) (record { asked = refl; beyond = refl })))
    (subst (λ (s : List ℕ). Says world (IsConstantFound world s field) result
    (constant_told world client n enters.class enters.there field)) enters.named
    (constant_says world client n enters.class enters.there field met meets result none some))

-- ---- annotations

class_says : (world : World) (IsFound : ℕ → Finding → Type 0) (r : Reply MemberAt)
    (answer : Answer) → Says world (λ at finding. IsFound at.class finding) r answer →
    Says world IsFound (class_reply r) answer
class_says world IsFound (reply.Found at) answer says =
    record { finding = says.finding; there = says.there; is = says.is }
class_says world IsFound reply.NotFound answer says = says
class_says world IsFound (reply.NotAccessible declarer) answer says = says
class_says world IsFound (reply.Ambiguous first second) answer says = says
class_says world IsFound reply.WrongKind answer says = says
class_says world IsFound (reply.Cycle at) answer says = says

module _ (world : World) (client : Client) (n : ℕ) (c : View)
    (at : slice_get world n ≡ Some c) (members : View → List MemberView)
    (choice : View → Option MemberView) (part : Part)
    (taken_of : (v : View) →
    annotations_in v part ≡ option_map (λ m. m.annotations) (choice v)) where
  abbrev annotations_told : Answer
  annotations_told = annotations_answer world client c (choice c)

  abbrev IsFoundAt : MemberAt → Finding → Type 0
  IsFoundAt place finding = IsAnnotationsFound world c.name part place.class finding

  annotated : (place : MemberAt) (d : Declared) → Taken world n c at choice d →
      Placed world members place d → Gives world client IsFoundAt place d annotations_told
  annotated place d t there = record {
    finding = AnnotationsFound d.member.annotations;
    found = record {
      class = d.declarer;
      annotations = d.member.annotations;
      there = there.there;
      named = ap (λ (v : View). v.name) (sym t.class_is);
      held =
          ap (λ (v : View). annotations_in v part) (sym t.class_is) ∙ taken_of c
          ∙ ap (option_map (λ m. m.annotations)) t.has;
      is = refl;
    };
    is =
        ap (annotations_answer world client c) t.has
        ∙ ap (λ (v : View). reply_to world client v.name d.member
        (AnnotationsFound d.member.annotations)) t.class_is;
  }

  pub annotations_say : (met : Option Met) →
      Meets world members met (declared_at world choice n) → (result : Reply MemberAt) →
      (met ≡ None → result ≡ reply.NotFound) →
      ((one : Met) (v : View) → met ≡ Some one → slice_get world one.at.class ≡ Some v →
      result ≡ replied world client v one) →
      Says world (IsAnnotationsFound world c.name part) (class_reply result) annotations_told
  annotations_say met meets result none some =
      class_says world (IsAnnotationsFound world c.name part) result annotations_told
      (own_says world n c at choice client members IsFoundAt met annotations_told meets result
      none some (λ e. ap (annotations_answer world client c) e) annotated)

pub annotations_asked : (world : World) (client : Client) (name : List ℕ) (n : ℕ)
    (enters : Enters world client name n) (part : Part) (result : Reply ℕ) →
    Says world (IsAnnotationsFound world enters.class.name part) result
    (annotations_at world client enters.class part) →
    Says world (IsAnnotationsFound world name part) result
    (ask world client (AnnotationsQuery name part))
annotations_asked world client name n enters part result says =
    subst (Says world (IsAnnotationsFound world name part) result)
    (sym (enters.answers (AnnotationsQuery name part) (record { asked = refl; beyond = refl })))
    (subst (λ (s : List ℕ). Says world (IsAnnotationsFound world s part) result
    (annotations_at world client enters.class part)) enters.named says)
