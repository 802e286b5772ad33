use Rattle.std.proofs.Common.{◌≡◌, ◌≤◌, length}
use Rattle.supertypes.specs.Going.{IsAlong}
use Rattle.supertypes.proofs.rings.Rings.join.Given as goal

abbrev pub invariant-loop-self : goal.invariant-loop-self
invariant-loop-self l = record {
  along : IsAlong l.graph l.self l.fn.edge;
  standings : l.self.standings.items ≡ l.fn.self.standings.items;
  on_way : l.self.on_way.items ≡ l.fn.self.on_way.items;
  path : l.self.path.items ≡ l.fn.self.path.items;
  runs : length l.self.runs.items ≤ length l.fn.self.runs.items;
}

abbrev pub decreases-loop-self : goal.decreases-loop-self
decreases-loop-self l = length l.self.runs.items
