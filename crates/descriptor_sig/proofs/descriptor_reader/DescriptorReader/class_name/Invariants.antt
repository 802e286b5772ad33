use Rattle.std.proofs.Common.{length}
use Rattle.descriptor_sig.proofs.ClassNames.{NameSoFar}
use Rattle.descriptor_sig.proofs.descriptor_reader.DescriptorReader.class_name.Given as goal

abbrev pub invariant-loop-self : goal.invariant-loop-self
invariant-loop-self l = NameSoFar l.in_part l.text l.self.rest.now

abbrev pub decreases-loop-self : goal.decreases-loop-self
decreases-loop-self l = length l.self.rest.now
