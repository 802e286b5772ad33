use Rattle.std.proofs.lemmas.Result.{err_from_is_err_and}
use Rattle.pool_reader.proofs.Times.{goes_on, ends, is_done}
use Rattle.attribute_reader.specs.Values.{value_at, element_at}
use Rattle.attribute_reader.proofs.values.+values.Goals as goal

pub elements-returns-in_err-next : goal.elements-returns-in_err-next
elements-returns-in_err-next t c =
    let p = err_from_is_err_and c.from_residual-in_err-next.result
    c.from_residual-in_err-next.ensures.1 in
    rw (p.1, p.2)
    (ends c.in_err-next.field-0.0
    (element_at c.args.pool.now (value_at c.args.pool.now c.args.left)) _ c.args.count
    c.loop.counter
    c.loop.reader _
    c.loop-test.true c.in_err-next.ensures c.loop.invariant)

pub elements-loop-preserved : goal.elements-loop-preserved
elements-loop-preserved t c =
    rw c.in_ok-push.ensures.items
    (goes_on
    (element_at c.args.pool.now (value_at c.args.pool.now c.args.left)) _ c.args.count
    c.loop.counter
    c.loop.reader c.in_ok-next.next
    c.element.new.reader _ c.loop-test.true c.in_ok-next.ensures c.loop.invariant)

pub elements-returns : goal.elements-returns
elements-returns t c =
    rw c.of.ensures
    (is_done
    (element_at c.args.pool.now (value_at c.args.pool.now c.args.left)) _ c.args.count
    c.loop.counter
    c.loop.reader _ c.loop-test.false
    c.loop.invariant)

pub values-returns-in_err-next : goal.values-returns-in_err-next
values-returns-in_err-next t c =
    let p = err_from_is_err_and c.from_residual-in_err-next.result
    c.from_residual-in_err-next.ensures.1 in
    rw (p.1, p.2)
    (ends c.in_err-next.field-0.0
    (value_at c.args.pool.now c.args.left) _ c.args.count c.loop.counter
    c.loop.reader _
    c.loop-test.true c.in_err-next.ensures c.loop.invariant)

pub values-loop-preserved : goal.values-loop-preserved
values-loop-preserved t c =
    rw c.in_ok-push.ensures.items
    (goes_on
    (value_at c.args.pool.now c.args.left) _ c.args.count c.loop.counter
    c.loop.reader c.in_ok-next.next
    c.value.new.reader _ c.loop-test.true c.in_ok-next.ensures c.loop.invariant)

pub values-returns : goal.values-returns
values-returns t c =
    rw c.of.ensures
    (is_done
    (value_at c.args.pool.now c.args.left) _ c.args.count c.loop.counter
    c.loop.reader _ c.loop-test.false
    c.loop.invariant)
