-- The first class of a walk, or of a chain, that declares what is sought.
use Rattle.std.proofs.Common.{◌≡◌, refl, ap, sym, ◌∙◌, ℕ, zero, suc, ◌<◌, List, []}
use Rattle.std.proofs.Common.{length, map, Option, Some}
use Rattle.std.specs.Prelude.{slice_get, option_map, option_and_then, find, Contains}
use Rattle.std.specs.Prelude.{option_to_list}
use Rattle.std.proofs.lemmas.List.{length-map}
use Rattle.std.proofs.lemmas.Option.{slice_get-map, get_or_from_slice_get, slice_get_within}
use Rattle.reachability.specs.Reached.{targets}
use Rattle.supertypes.specs.Ways.{HasWay, HasNoRing as FreeNumbers}
use Rattle.supertypes.specs.Walk.{walk as numbers, IsWalk}
use Rattle.supertypes.proofs.Settled.{settled}
use Rattle.class_views.specs.View.{View, MemberView}
use Rattle.class_views.specs.World.{World, walk, chain, supertypes}
use Rattle.class_views.specs.Resolution.{NameAndType, first_declared, field_in}
use Rattle.class_views.specs.Resolution.{field_resolution}
use Rattle.class_views.proofs.Settled.{in_back}
use Rattle.client_view.specs.Indexed.{superclasses}
use Rattle.client_view.specs.Members.{declares, declared_at}
use Rattle.client_view.specs.Numbers.{row_of, AreApart, IsGraphOf}
use Rattle.client_view.specs.Refusals.{IsFree}
use Rattle.client_view.proofs.Numbered.{number_is}
use Rattle.client_view.proofs.Graphs.{edge_name, name_edge, get_there, reach_there}
use Rattle.client_view.proofs.Rings.{free_numbers}
use Rattle.client_view.proofs.Walks.{walk_lifted, chain_lifted, first_lifted}

module _ (world : World) (apart : AreApart world) (graph : List (List ℕ))
    (is : IsGraphOf world supertypes graph) (n : ℕ) where
  pub free_graph : IsFree world n → FreeNumbers graph n
  free_graph free = free_numbers world apart graph is n free.class free.there free.free

  pub walked : IsFree world n → IsWalk graph n (numbers graph)
  walked free = settled graph n (free_graph free)

  pub first_of_walk : (v : View) → slice_get world n ≡ Some v →
      (choice : View → Option MemberView) (o : Option ℕ) →
      o ≡ find (declares world choice) (numbers graph n) →
      first_declared choice (walk world v.name) ≡ option_and_then (declared_at world choice) o
  first_of_walk v at choice o e =
      ap (first_declared choice)
      (walk_lifted world apart graph is v.name n (number_is world apart n v at))
      ∙ first_lifted world choice (numbers graph n)
      ∙ ap (option_and_then (declared_at world choice)) (sym e)

-- the graph of all supertypes
graph_of : World → List (List ℕ)
graph_of world = map (row_of world supertypes) world

graph_is : (world : World) → IsGraphOf world supertypes (graph_of world)
unfolding graph_of
graph_is world = record {
  level = length-map world (row_of world supertypes);
  rows = λ number c at.
      get_or_from_slice_get (map (row_of world supertypes) world) number
      (row_of world supertypes c) []
      (slice_get-map (row_of world supertypes) world number
      ∙ ap (option_map (row_of world supertypes)) at);
}

module _ (world : World) (apart : AreApart world) (graph : List (List ℕ))
    (is : IsGraphOf world superclasses graph) (n : ℕ) where
  edge_up : (a b : ℕ) → a < length world → Contains (targets graph a) b →
      Contains (targets (graph_of world) a) b
  edge_up a b few edge =
      let own = get_there world a few in
      let up = edge_name world apart superclasses graph is a b own.0 own.1 edge in
      name_edge world apart supertypes (graph_of world) (graph_is world) a b own.0 up.0 own.1
      (in_back up.0 own.0.interfaces (option_to_list own.0.super_name) up.1) up.2

  way_up : (steps a b : ℕ) → a < length world → HasWay graph steps a b →
      HasWay (graph_of world) steps a b
  way_up zero a b few way = way
  way_up (suc steps) a b few way =
      let next = reach_there world apart superclasses graph is a way.0 few
      (1, (way.0, way.1, refl)) in (
        way.0,
        edge_up a way.0 few way.1,
        way_up steps way.0 b (slice_get_within world way.0 next.0 next.1) way.2,
      )

  pub chain_free : IsFree world n → FreeNumbers graph n
  chain_free free k way self =
      let few = slice_get_within world n free.class free.there in
      let end = reach_there world apart superclasses graph is n k few way in
      let small = slice_get_within world k end.0 end.1 in
      let next = reach_there world apart superclasses graph is k self.0 small
      (1, (self.0, self.1, refl)) in
      free_graph world apart (graph_of world) (graph_is world) n free k
      (way.0, way_up way.0 n k few way.1) (
        self.0,
        edge_up k self.0 small self.1,
        (
          self.2.0,
          way_up self.2.0 self.0 k
              (slice_get_within world self.0 next.0 next.1) self.2.1,
        ),
      )

  pub chained : IsFree world n → IsWalk graph n (numbers graph)
  chained free = settled graph n (chain_free free)

  pub first_of_chain : (v : View) → slice_get world n ≡ Some v →
      (choice : View → Option MemberView) (o : Option ℕ) →
      o ≡ find (declares world choice) (numbers graph n) →
      first_declared choice (chain world v.name) ≡ option_and_then (declared_at world choice) o
  first_of_chain v at choice o e =
      ap (first_declared choice)
      (chain_lifted world apart graph is v.name n (number_is world apart n v at))
      ∙ first_lifted world choice (numbers graph n)
      ∙ ap (option_and_then (declared_at world choice)) (sym e)

-- ---- fields

pub field_first : (world : World) (apart : AreApart world) (graph : List (List ℕ))
    (is : IsGraphOf world supertypes graph) (n : ℕ) (v : View) → slice_get world n ≡ Some v →
    (sought : NameAndType) (o : Option ℕ) →
    o ≡ find (declares world (field_in sought)) (numbers graph n) →
    field_resolution world v.name sought
    ≡ option_and_then (declared_at world (field_in sought)) o
unfolding field_resolution
field_first world apart graph is n v at sought o e =
    first_of_walk world apart graph is n v at (field_in sought) o e
