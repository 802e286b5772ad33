use Rattle.std.proofs.Common.{length}
use Rattle.descriptor_sig.specs.Standing.{ParamsStand}
use Rattle.descriptor_sig.proofs.Leading.{Leads, behind}
use Rattle.descriptor_sig.proofs.ParamSteps.{ParamsRow}
use Rattle.descriptor_sig.proofs.signature_reader.SignatureReader.parameters.Given as goal

abbrev pub invariant-loop-alloc : goal.invariant-loop-alloc
invariant-loop-alloc l = Leads (behind l.params.items) ParamsStand ParamsRow l.fn.self l.self

abbrev pub decreases-loop-alloc : goal.decreases-loop-alloc
decreases-loop-alloc l = length l.self
