use Rattle.std.proofs.Common.{◌≡◌, ◌≤◌, ◌++◌, length, replicate}
use Rattle.descriptor_sig.proofs.descriptor_reader.DescriptorReader.dimensions.Given as goal

abbrev pub invariant-loop-self : goal.invariant-loop-self
invariant-loop-self l = record {
  whole : l.fn.self.rest.now ≡ replicate l.dims 91 ++ l.self.rest.now;
  few : l.dims ≤ 255;
}

abbrev pub decreases-loop-self : goal.decreases-loop-self
decreases-loop-self l = length l.self.rest.now
