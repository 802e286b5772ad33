use Rattle.std.proofs.Common.{arith}
use Rattle.supertypes.proofs.Stepped.{ended}
use Rattle.supertypes.proofs.rings.least_rings.Goals as goal

pub returns-clause-length : goal.returns-clause-length
returns-clause-length c = c.loop-class.invariant.on_way.shows.label_level

pub returns-clause-exact : goal.returns-clause-exact
returns-clause-exact c = λ n few.
    let over = c.loop-class-test.false in
    let long = c.len-class-end.ensures in
    ended c.args.graph.now c.loop-class.rings c.loop-class.class n c.loop-class.invariant
    (omega (arith, few, over, long))
