use Rattle.std.proofs.Common.{◌≡◌, take}
use Rattle.java_types.proofs.types.+copy_type.Given as goal

abbrev pub invariant-copy_parts-loop-part : goal.invariant-copy_parts-loop-part
invariant-copy_parts-loop-part l = l.copy.items ≡ take l.part-index l.parts

abbrev pub invariant-JPart::copy-loop-arg : goal.invariant-JPart::copy-loop-arg
invariant-JPart::copy-loop-arg l = l.copies.items ≡ take l.arg-index l.args
