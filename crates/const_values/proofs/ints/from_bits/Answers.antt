use Rattle.std.proofs.Common.{rules, FitsSigned}
use Rattle.std.proofs.Math.Facts.{Fits-lt-pow}
use Rattle.std.specs.Int.{w32}
use Rattle.const_values.proofs.Wrapping.{negated_bits, plain_bits}
use Rattle.const_values.proofs.ints.from_bits.Goals as goal

pub returns-then-negated : goal.returns-then-negated
returns-then-negated c =
    let s_fits : FitsSigned w32 c.cast_signed.result = search rules in
    let r_fits : FitsSigned w32 c.wrapping_neg.result = search rules in
    rw c.if-negated.true (negated_bits w32 c.args.bits c.cast_signed.result c.wrapping_neg.result
    (Fits-lt-pow c.ranges.bits) s_fits r_fits c.cast_signed.ensures c.wrapping_neg.ensures)

pub returns-else-negated : goal.returns-else-negated
returns-else-negated c =
    let fits : FitsSigned w32 c.cast_signed-else-negated.result = search rules in
    rw c.if-negated.false (plain_bits w32 c.args.bits c.cast_signed-else-negated.result
    (Fits-lt-pow c.ranges.bits) fits c.cast_signed-else-negated.ensures)
