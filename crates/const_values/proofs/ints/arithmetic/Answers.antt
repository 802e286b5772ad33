use Rattle.std.proofs.Common.{rules, ap, Some, lit<, FitsSigned}
use Rattle.std.specs.Int.{w32}
use Rattle.std.proofs.lemmas.Int.{wrapping_add_is, wrapping_sub_is}
use Rattle.const_values.proofs.Wrapping.{division, nonzero}
use Rattle.const_values.proofs.ints.arithmetic.Goals as goal

pub returns-in-Slash : goal.returns-in-Slash
returns-in-Slash c =
    let fits : FitsSigned w32 c.wrapping_div.result = search rules in
    let is = division w32 c.args.left c.args.right c.wrapping_div.result
    c.ranges.left c.ranges.right fits (lit< tt) c.wrapping_div.ensures in
    rw (c.in-Slash.is, nonzero w32 c.args.right c.if-right-ne0.true) (ap Some is)

pub returns-in-Plus : goal.returns-in-Plus
returns-in-Plus c =
    rw c.in-Plus.is
    (ap Some (wrapping_add_is w32 c.args.left c.args.right c.ranges.left c.ranges.right))

pub returns-in-Minus : goal.returns-in-Minus
returns-in-Minus c =
    rw c.in-Minus.is
    (ap Some (wrapping_sub_is w32 c.args.left c.args.right c.ranges.left c.ranges.right))
