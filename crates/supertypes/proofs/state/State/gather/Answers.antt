use Rattle.std.proofs.Common.{◌≡◌, ◌<◌, ◌≤◌, ap, length, arith}
use Rattle.supertypes.proofs.Gathered.{begin, begin_more, gathering, gather_more, gathered_all}
use Rattle.supertypes.proofs.state.State.gather.Goals as goal

pub loop-class-init : goal.loop-class-init
loop-class-init c = begin c.args.graph.now c.args.classes.now c.args.self.now c.requires.room
    c.requires.clean

pub loop-class-preserved : goal.loop-class-preserved
loop-class-preserved c =
    begin_more c.args.graph.now c.args.classes.now c.loop-class.self c.mark_each.new.self
    c.loop-class.class-index _ c.loop-class-test.true c.loop-class.invariant
    (rw c.row_of.ensures at c.mark_each.ensures.grew) c.mark_each.ensures.steady

pub loop-at-init : goal.loop-at-init
loop-at-init c =
    gathering c.args.graph.now c.args.classes.now c.loop-class.self c.loop-class.class-index
    c.loop-class-test.false c.loop-class.invariant

pub loop-at-preserved : goal.loop-at-preserved
loop-at-preserved c =
    let level : length c.as_slice.result.now ≡ length c.loop-at.self.found.items =
    ap length c.as_slice.ensures.value in
    let few : c.loop-at.at < length c.loop-at.self.found.items =
    omega (arith, level, c.loop-at-test.true) in
    gather_more c.args.graph.now c.args.classes.now c.loop-at.self c.mark_each-in-loop-at.new.self
    c.loop-at.at c.index-class.result.now c.loop-at.invariant few c.index-class.ensures
    (rw c.row_of-in-loop-at.ensures at c.mark_each-in-loop-at.ensures.grew)
    c.mark_each-in-loop-at.ensures.steady

pub returns-clause-gathered : goal.returns-clause-gathered
returns-clause-gathered c =
    let level : length c.as_slice.result.now ≡ length c.loop-at.self.found.items =
    ap length c.as_slice.ensures.value in
    let over : length c.loop-at.self.found.items ≤ c.loop-at.at =
    omega (arith, level, c.loop-at-test.false) in
    gathered_all c.args.graph.now c.args.classes.now c.loop-at.self c.loop-at.at
    c.loop-at.invariant over
