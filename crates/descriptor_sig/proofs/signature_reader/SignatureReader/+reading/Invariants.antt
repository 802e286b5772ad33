use Rattle.std.proofs.Common.{◌≤◌, ◌<◌, ◌+◌, ◌*◌, ◌-◌, length}
use Rattle.descriptor_sig.specs.Standing.{PartsStand, ArgsStand}
use Rattle.descriptor_sig.proofs.Leading.{Leads, behind}
use Rattle.descriptor_sig.proofs.PartSteps.{PartsHead}
use Rattle.descriptor_sig.proofs.ArgSteps.{ArgsRow}
use Rattle.descriptor_sig.proofs.signature_reader.SignatureReader.+reading.Given as goal

abbrev pub decreases-argument : goal.decreases-argument
decreases-argument l = 6 * (64 - l.depth) + 6

abbrev pub decreases-java_type : goal.decreases-java_type
decreases-java_type l = 6 * (64 - l.depth) + 5

abbrev pub decreases-element : goal.decreases-element
decreases-element l = 6 * (64 - l.depth) + 4

abbrev pub decreases-parts : goal.decreases-parts
decreases-parts l = 6 * (64 - l.depth) + 3

abbrev pub decreases-part : goal.decreases-part
decreases-part l = 6 * (64 - l.depth) + 2

abbrev pub decreases-arguments : goal.decreases-arguments
decreases-arguments l = 6 * (64 - l.depth) + 1

abbrev pub invariant-arguments-loop-alloc : goal.invariant-arguments-loop-alloc
invariant-arguments-loop-alloc l = record {
  built : Leads (behind l.args.items) (ArgsStand l.depth) (ArgsRow (l.depth + 1)) l.fn.self l.self;
  shrinks : length l.self < length l.fn.self;
  shallow : l.depth < 64;
}

abbrev pub decreases-arguments-loop-alloc : goal.decreases-arguments-loop-alloc
decreases-arguments-loop-alloc l = length l.self

abbrev pub invariant-parts-loop-parts : goal.invariant-parts-loop-parts
invariant-parts-loop-parts l = record {
  built : Leads (behind l.parts.items) (PartsStand l.depth) (PartsHead l.depth) l.fn.self l.self;
  shrinks : length l.self ≤ length l.fn.self;
}

abbrev pub decreases-parts-loop-parts : goal.decreases-parts-loop-parts
decreases-parts-loop-parts l = length l.self
