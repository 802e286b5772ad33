use Rattle.std.proofs.Common.{length}
use Rattle.java_names.proofs.ModifiedUtf8.{AreFront}
use Rattle.java_names.proofs.units.units_of.Given as goal

abbrev pub invariant-loop-rest : goal.invariant-loop-rest
invariant-loop-rest l = AreFront l.bytes l.units.items l.rest

abbrev pub decreases-loop-rest : goal.decreases-loop-rest
decreases-loop-rest l = length l.rest
