-- Who stands on a chain of superclasses, also in a ring.
use Rattle.std.proofs.Common.{◌≡◌, sym, ◌∙◌, ℕ, arith, Bool}
use Rattle.std.proofs.Common.{true, List, length, Some}
use Rattle.std.specs.Prelude.{slice_get, ◌↔◌}
use Rattle.std.specs.Cmp.{both_ways}
use Rattle.std.proofs.lemmas.List.{length-map}
use Rattle.java_names.specs.Names.{is_text}
use Rattle.supertypes.specs.Ways.{Reaches}
use Rattle.class_views.specs.View.{View}
use Rattle.class_views.specs.World.{World, class_of, chain, is_among}
use Rattle.class_views.proofs.Ways.{way_of, leads_by_way}
use Rattle.class_views.proofs.Worlds.{same_text, texts, name_of, names_of, names_listed}
use Rattle.class_views.proofs.Worlds.{chain_leads}
use Rattle.client_view.specs.Numbers.{AreApart, IsGraphOf}
use Rattle.client_view.specs.Indexed.{superclasses}
use Rattle.client_view.proofs.Graphs.{leads_reach, reach_leads}

module _ (world : World) (apart : AreApart world) (graph : List (List ℕ))
    (is : IsGraphOf world superclasses graph) (n m : ℕ) (c d : View)
    (at : slice_get world n ≡ Some c) (there : slice_get world m ≡ Some d) where
  pub chain_reaches : is_among d.name (chain world c.name) ≡ true → Reaches graph n m
  chain_reaches t =
      let way = way_of (class_of world) superclasses is_text same_text (length world) c.name d.name
      (sym (chain_leads world (length world) c.name d.name) ∙ t) in
      leads_reach world apart superclasses graph is n m c d at there (way.0, way.1)

  pub reaches_chain : Reaches graph n m → is_among d.name (chain world c.name) ≡ true
  reaches_chain way =
      let leads = reach_leads world apart superclasses graph is n m c d at there way in
      chain_leads world (length world) c.name d.name
      ∙ leads_by_way (class_of world) superclasses is_text texts same_text (names_of world)
      (names_listed world) c.name d.name leads.0 leads.1 (length world)
      (let long = length-map world name_of in omega (arith, long))

  pub chain_is : (b : Bool) → ((b ≡ true) ↔ Reaches graph n m) →
      b ≡ is_among d.name (chain world c.name)
  chain_is b tells =
      both_ways b (is_among d.name (chain world c.name)) (λ t. reaches_chain (tells.0 t))
      (λ t. tells.1 (chain_reaches t))
