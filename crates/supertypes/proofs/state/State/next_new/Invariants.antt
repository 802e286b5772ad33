use Rattle.std.proofs.Common.{◌≤◌, ◌-◌, length}
use Rattle.supertypes.specs.Walking.{AreOld}
use Rattle.supertypes.proofs.state.State.next_new.Given as goal

abbrev pub invariant-loop-at : goal.invariant-loop-at
invariant-loop-at l = record {
  behind : l.from ≤ l.at;
  old : AreOld l.self.marks.items l.classes l.from l.at;
}

abbrev pub decreases-loop-at : goal.decreases-loop-at
decreases-loop-at l = length l.classes - l.at
