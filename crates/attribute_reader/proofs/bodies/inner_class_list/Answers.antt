use Rattle.std.proofs.lemmas.Result.{err_from_is_err_and}
use Rattle.attribute_reader.specs.Attributes.{next_inner_class_at}
use Rattle.attribute_reader.proofs.InnerLoops.{next_fails, next_goes_on}
use Rattle.attribute_reader.proofs.Loops.{growing_ends, grown}
use Rattle.attribute_reader.proofs.bodies.inner_class_list.Goals as goal

pub returns-in_err-next : goal.returns-in_err-next
returns-in_err-next c =
    let p = err_from_is_err_and c.from_residual-in_err-next.result
    c.from_residual-in_err-next.ensures.1 in
    rw (p.1, p.2)
    (growing_ends (next_inner_class_at c.args.pool.now) c.in_err-next.field-0.0
    c.loop.entries.items c.args.count c.loop.counter c.loop.reader _ c.loop-test.true
    (next_fails c.in_err-next.field-0.0 c.args.pool.now c.loop.seen c.loop.entries.items
    c.loop.reader c.loop.invariant.0 c.in_err-next.ensures.entry)
    c.loop.invariant.1)

pub loop-preserved : goal.loop-preserved
loop-preserved c =
    rw c.in_ok-push.ensures.items
    (next_goes_on c.args.pool.now c.loop.seen c.inner_class.new.seen c.loop.entries.items
    c.args.count c.loop.counter c.loop.reader c.inner_class.new.reader c.in_ok-next.next _
    c.loop-test.true c.in_ok-next.ensures.entry c.in_ok-next.ensures.seen c.loop.invariant.0
    c.loop.invariant.1)

pub returns : goal.returns
returns c =
    rw c.of.ensures
    (grown (next_inner_class_at c.args.pool.now) c.loop.entries.items c.args.count c.loop.counter
    c.loop.reader _ c.loop-test.false c.loop.invariant.1)
