use Rattle.std.proofs.Common.{length}
use Rattle.descriptor_scan.proofs.Methods.{SoFar}
use Rattle.descriptor_scan.proofs.method.behind_formals.Given as goal

abbrev pub invariant-loop-rest : goal.invariant-loop-rest
invariant-loop-rest l = SoFar l.text l.rest l.count

abbrev pub decreases-loop-rest : goal.decreases-loop-rest
decreases-loop-rest l = length l.rest
