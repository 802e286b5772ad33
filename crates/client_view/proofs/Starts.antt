-- Whether a question goes into a class.
use Rattle.std.proofs.Common.{◌≡◌, ap, sym, ◌∙◌, ℕ, true, false, List, Some}
use Rattle.std.proofs.Common.{None}
use Rattle.std.specs.Prelude.{slice_get, Ok, Err}
use Rattle.class_views.specs.View.{View}
use Rattle.class_views.specs.World.{World, ring_of}
use Rattle.class_views.specs.Access.{Client, is_accessible_class}
use Rattle.client_view.specs.Numbers.{number_of}
use Rattle.client_view.specs.Refusals.{Starts}
use Rattle.client_view.specs.declared.refusal.Refusal.TheVariants as refusal
use Rattle.client_view.proofs.Numbered.{number_there}
use Rattle.client_view.proofs.Answered.{asked_nothing, asked_hidden, asked_ring, asked_free}

module _ (world : World) (client : Client) (name : List ℕ) where
  pub nothing_starts : number_of world name ≡ None → Starts world client name (Err refusal.NoClass)
  nothing_starts e = λ query beyond. asked_nothing world client query
      (ap (number_of world) beyond.asked ∙ e)

  module _ (n : ℕ) (c : View) (is : number_of world name ≡ Some n)
      (at : slice_get world n ≡ Some c) where
    -- the class has the name
    pub named : c.name ≡ name
    named =
        let there = number_there world name n is in
        let e : Some there.class ≡ Some c = sym there.there ∙ at in
        let c_is : there.class ≡ c = cc in
        ap (λ (v : View). v.name) (sym c_is) ∙ there.named

    pub hidden_starts : is_accessible_class client c ≡ false →
        Starts world client name (Err (refusal.Hidden n))
    hidden_starts f = λ query beyond. record {
      class = c;
      there = at;
      is = asked_hidden world client query n c (ap (number_of world) beyond.asked ∙ is) at f;
    }

    pub ring_starts : (k : ℕ) (ring : View) → is_accessible_class client c ≡ true →
        ring_of world c.name ≡ Some ring → slice_get world k ≡ Some ring →
        Starts world client name (Err (refusal.Ring k))
    ring_starts k ring t e there = λ query beyond. record {
      class = ring;
      there = there;
      is = asked_ring world client query n c (ap (number_of world) beyond.asked ∙ is) at ring t
          beyond.beyond (ap (ring_of world) (beyond.asked ∙ sym named) ∙ e);
    }

    pub free_starts : is_accessible_class client c ≡ true → ring_of world c.name ≡ None →
        Starts world client name (Ok n)
    free_starts t e = record {
      class = c;
      there = at;
      named = named;
      free = ap (ring_of world) (sym named) ∙ e;
      answers = λ query beyond. asked_free world client query n c
          (ap (number_of world) beyond.asked ∙ is) at t beyond.beyond
          (ap (ring_of world) (beyond.asked ∙ sym named) ∙ e);
    }
