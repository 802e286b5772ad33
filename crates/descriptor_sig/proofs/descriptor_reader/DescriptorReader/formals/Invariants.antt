use Rattle.std.proofs.Common.{length}
use Rattle.descriptor_sig.proofs.Descriptors.{FormalsSoFar}
use Rattle.descriptor_sig.proofs.descriptor_reader.DescriptorReader.formals.Given as goal

abbrev pub invariant-loop-self : goal.invariant-loop-self
invariant-loop-self l = FormalsSoFar l.formals.items l.fn.self.rest.now l.self.rest.now

abbrev pub decreases-loop-self : goal.decreases-loop-self
decreases-loop-self l = length l.self.rest.now
