use Rattle.std.proofs.Common.{rules, ap, Some, FitsSigned}
use Rattle.std.specs.Int.{w64}
use Rattle.const_values.proofs.Wrapping.{negation}
use Rattle.const_values.proofs.longs.unary.Goals as goal

pub returns-in-Minus : goal.returns-in-Minus
returns-in-Minus c =
    let fits : FitsSigned w64 c.wrapping_neg.result = search rules in
    rw c.in-Minus.is
    (ap Some (negation w64 c.args.number _ c.ranges.number fits c.wrapping_neg.ensures))
