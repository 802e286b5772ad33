use Rattle.std.proofs.lemmas.Result.{err_from_is_err_and}
use Rattle.pool_reader.proofs.Times.{goes_on, ends, is_done}
use Rattle.attribute_reader.specs.Items.{class_at}
use Rattle.attribute_reader.proofs.lists.names.Goals as goal

pub returns-in_err-name : goal.returns-in_err-name
returns-in_err-name c =
    let p = err_from_is_err_and c.from_residual-in_err-name.result
    c.from_residual-in_err-name.ensures.1 in
    rw (p.1, p.2)
    (ends c.in_err-name.field-0.0 (class_at c.args.pool.now) _ c.args.count c.loop.counter
    c.loop.reader _ c.loop-test.true c.in_err-name.ensures c.loop.invariant)

pub loop-preserved : goal.loop-preserved
loop-preserved c =
    rw (c.in_ok-push.ensures.items, c.in_ok-of.ensures)
    (goes_on (class_at c.args.pool.now) _ c.args.count c.loop.counter c.loop.reader
    c.in_ok-name.name.now c.class_name.new.reader _ c.loop-test.true c.in_ok-name.ensures
    c.loop.invariant)

pub returns : goal.returns
returns c =
    rw c.of-2.ensures
    (is_done (class_at c.args.pool.now) _ c.args.count c.loop.counter c.loop.reader _
    c.loop-test.false c.loop.invariant)
