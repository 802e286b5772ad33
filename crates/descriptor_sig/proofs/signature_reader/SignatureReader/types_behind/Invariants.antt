use Rattle.std.proofs.Common.{length, ◌≤◌}
use Rattle.descriptor_sig.specs.Standing.{MarkedStand}
use Rattle.descriptor_sig.proofs.Leading.{Leads, behind}
use Rattle.descriptor_sig.proofs.signature_reader.SignatureReader.types_behind.Given as goal

abbrev pub invariant-loop-alloc : goal.invariant-loop-alloc
invariant-loop-alloc l = record {
  built : Leads (behind l.types.items) (MarkedStand l.mark) (MarkedStand l.mark) l.fn.self l.self;
  shrinks : length l.self ≤ length l.fn.self;
}

abbrev pub decreases-loop-alloc : goal.decreases-loop-alloc
decreases-loop-alloc l = length l.self
