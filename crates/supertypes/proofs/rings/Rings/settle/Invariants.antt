use Rattle.std.proofs.Common.{◌≡◌, ◌≤◌, ◌-◌, take, drop}
use Rattle.supertypes.specs.Going.{AreSettled}
use Rattle.supertypes.proofs.rings.Rings.settle.Given as goal

abbrev pub invariant-loop-place : goal.invariant-loop-place
invariant-loop-place l = record {
  from : l.start ≤ l.place;
  settled : AreSettled l.fn.self.standings.items l.self.standings.items l.fn.self.labels.items
      l.self.labels.items (take (l.place - l.start) (drop l.start l.fn.self.on_way.items)) l.ring;
  on_way : l.self.on_way.items ≡ l.fn.self.on_way.items;
  path : l.self.path.items ≡ l.fn.self.path.items;
  runs : l.self.runs.items ≡ l.fn.self.runs.items;
}
