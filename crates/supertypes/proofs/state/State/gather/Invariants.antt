use Rattle.std.proofs.Common.{◌-◌, length}
use Rattle.supertypes.proofs.Gathered.{Beginning, Gathering}
use Rattle.supertypes.proofs.state.State.gather.Given as goal

abbrev pub invariant-loop-class : goal.invariant-loop-class
invariant-loop-class l = Beginning l.graph l.classes l.self l.class-index

abbrev pub invariant-loop-at : goal.invariant-loop-at
invariant-loop-at l = Gathering l.graph l.classes l.self l.at

-- classes that are not gone over
abbrev pub decreases-loop-at : goal.decreases-loop-at
decreases-loop-at l = length l.graph - l.at
