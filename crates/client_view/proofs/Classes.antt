-- Questions about a class alone.
use Rattle.std.proofs.Common.{◌≡◌, refl, sym, ◌∙◌, ℕ, Bool, true, false, List, Option}
use Rattle.std.proofs.Common.{Some}
use Rattle.std.proofs.Common.{None}
use Rattle.std.specs.Prelude.{slice_get}
use Rattle.class_views.specs.View.{View}
use Rattle.class_views.specs.World.{World, class_of}
use Rattle.class_views.specs.Access.{Client, is_accessible_class}
use Rattle.class_views.specs.Query.{ClassQuery, SupersQuery, ClassFound, ask, answer_of}
use Rattle.class_views.specs.Query.{without_members}
use Rattle.client_view.specs.Numbers.{number_of}
use Rattle.client_view.specs.Replies.{Says, IsClassFound}
use Rattle.client_view.specs.declared.reply.Reply.TheVariants as reply
use Rattle.client_view.proofs.Answered.{asked_nothing, asked_hidden, asked_open}
use Rattle.client_view.proofs.Numbered.{number_there}

module _ (world : World) (client : Client) (name : List ℕ) where
  pub no_class : None ≡ number_of world name →
      Says world (IsClassFound world) reply.NotFound (ask world client (ClassQuery name))
  no_class e = asked_nothing world client (ClassQuery name) (sym e)

  module _ (n : ℕ) (is : Some n ≡ number_of world name) (answer : Bool)
      (tells : (v : View) → slice_get world n ≡ Some v → answer ≡ is_accessible_class client v)
    where
      pub found_class : answer ≡ true → Says world (IsClassFound world) (reply.Found n)
          (ask world client (ClassQuery name))
      found_class t =
          let at = number_there world name n (sym is) in
          record {
            finding = ClassFound (without_members at.class);
            there = record { class = at.class; there = at.there; is = refl };
            is = asked_open world client (ClassQuery name) n at.class (sym is) at.there
                (sym (tells at.class at.there) ∙ t);
          }

      pub hidden_class : answer ≡ false → Says world (IsClassFound world) (reply.NotAccessible n)
          (ask world client (ClassQuery name))
      hidden_class f =
          let at = number_there world name n (sym is) in
          record {
            class = at.class;
            there = at.there;
            is = asked_hidden world client (ClassQuery name) n at.class (sym is) at.there
                (sym (tells at.class at.there) ∙ f);
          }

  -- its supertypes are told by the class
  pub asked_alike : ask world client (ClassQuery name) ≡ ask world client (SupersQuery name)
  unfolding ask
  asked_alike = by (class_of world name)
    where
      by : (o : Option View) →
          answer_of world client (ClassQuery name) o ≡ answer_of world client (SupersQuery name) o
      by None = refl
      by (Some c) = refl
