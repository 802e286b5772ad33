use Rattle.supertypes.specs.Going.{IsSettled}
use Rattle.supertypes.proofs.rings.least_rings.Given as goal

abbrev pub invariant-loop-class : goal.invariant-loop-class
invariant-loop-class l = IsSettled l.graph l.rings l.class
