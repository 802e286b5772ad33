use Rattle.std.proofs.Common.{rules, ap, Some, lit<, FitsSigned}
use Rattle.std.specs.Int.{w32}
use Rattle.std.specs.Int.{w64 as long}
use Rattle.const_values.proofs.Wrapping.{shifted}
use Rattle.const_values.proofs.ints.shift.Goals as goal

pub returns-in-ShiftLeft : goal.returns-in-ShiftLeft
returns-in-ShiftLeft c =
    let fits : FitsSigned long c.rem_euclid-distance.result = search rules in
    rw c.in-ShiftLeft.is
    (ap Some (shifted w32 c.args.number c.rem_euclid-distance.result c.args.count
    c.ranges.number fits c.ranges.count (lit< tt)
    c.rem_euclid-distance.ensures.value c.rem_euclid-distance.ensures.upper_bound))
