-- The answer to a question, step by step.
use Rattle.std.proofs.Common.{◌≡◌, ap, ◌∙◌, ℕ, true, false, cond}
use Rattle.std.proofs.Common.{Option, Some, None}
use Rattle.std.specs.Prelude.{slice_get, option_and_then}
use Rattle.class_views.specs.View.{View}
use Rattle.class_views.specs.World.{World, class_of, ring_of}
use Rattle.class_views.specs.Access.{Client, is_accessible_class}
use Rattle.class_views.specs.Query.{Query, NotFound, NotAccessible, Cycle, ask, answer_of}
use Rattle.class_views.specs.Query.{answer_in, class_asked, asks_beyond, ring_met, unless_ring}
use Rattle.client_view.specs.Numbers.{number_of}
use Rattle.client_view.proofs.Numbered.{class_by_number}

module _ (world : World) (client : Client) (query : Query) where
  answered : (o : Option View) → class_of world (class_asked query) ≡ o →
      ask world client query ≡ answer_of world client query o
  unfolding ask
  answered o e = ap (answer_of world client query) e

  pub asked_nothing : number_of world (class_asked query) ≡ None →
      ask world client query ≡ NotFound
  asked_nothing e =
      answered None (class_by_number world (class_asked query)
      ∙ ap (option_and_then (slice_get world)) e)

  module _ (n : ℕ) (c : View) (is : number_of world (class_asked query) ≡ Some n)
      (at : slice_get world n ≡ Some c) where
    found : class_of world (class_asked query) ≡ Some c
    found =
        class_by_number world (class_asked query) ∙ ap (option_and_then (slice_get world)) is ∙ at

    pub asked_hidden : is_accessible_class client c ≡ false →
        ask world client query ≡ NotAccessible c.name
    asked_hidden f =
        answered (Some c) found
        ∙ ap (λ b. cond b (unless_ring (ring_met world query) (answer_in world client c query))
        (NotAccessible c.name)) f

    pub asked_open : is_accessible_class client c ≡ true → ask world client query
        ≡ unless_ring (ring_met world query) (answer_in world client c query)
    asked_open t =
        answered (Some c) found
        ∙ ap (λ b. cond b (unless_ring (ring_met world query) (answer_in world client c query))
        (NotAccessible c.name)) t

    pub ring_asked : asks_beyond query ≡ true →
        ring_met world query ≡ ring_of world (class_asked query)
    ring_asked t = ap (λ b. cond b (ring_of world (class_asked query)) None) t

    pub asked_ring : (ring : View) → is_accessible_class client c ≡ true →
        asks_beyond query ≡ true → ring_of world (class_asked query) ≡ Some ring →
        ask world client query ≡ Cycle ring.name
    asked_ring ring t beyond e =
        asked_open t
        ∙ ap (λ o. unless_ring o (answer_in world client c query)) (ring_asked beyond ∙ e)

    pub asked_free : is_accessible_class client c ≡ true → asks_beyond query ≡ true →
        ring_of world (class_asked query) ≡ None →
        ask world client query ≡ answer_in world client c query
    asked_free t beyond e =
        asked_open t
        ∙ ap (λ o. unless_ring o (answer_in world client c query)) (ring_asked beyond ∙ e)
