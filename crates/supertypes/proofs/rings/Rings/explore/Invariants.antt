use Rattle.std.proofs.Common.{◌≡◌, ◌≤◌, ◌-◌, length}
use Rattle.supertypes.specs.Going.{IsAlong, work}
use Rattle.supertypes.proofs.rings.Rings.explore.Given as goal

abbrev pub invariant-loop-edge : goal.invariant-loop-edge
invariant-loop-edge l = record {
  along : IsAlong l.graph l.self l.edge;
  place : l.edge.place ≡ l.fn.edge.place;
  standings : l.self.standings.items ≡ l.fn.self.standings.items;
  on_way : l.self.on_way.items ≡ l.fn.self.on_way.items;
  work : work l.self ≤ work l.fn.self;
}

abbrev pub decreases-loop-edge : goal.decreases-loop-edge
decreases-loop-edge l = length l.row - l.edge.next
