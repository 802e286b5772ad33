use Rattle.std.proofs.lemmas.Result.{err_from_is_err_and}
use Rattle.pool_reader.proofs.Times.{goes_on, ends, is_done}
use Rattle.attribute_reader.proofs.lists.several.Goals as goal

pub returns-in_err-next : goal.returns-in_err-next
returns-in_err-next g c =
    let p = err_from_is_err_and c.from_residual-in_err-next.result
    c.from_residual-in_err-next.ensures.1 in
    rw (p.1, p.2)
    (ends c.in_err-next.field-0.0 (g.T.FromReader.read_at c.args.pool.now) _ c.args.count
    c.loop.counter c.loop.reader _ c.loop-test.true c.in_err-next.ensures c.loop.invariant)

pub loop-preserved : goal.loop-preserved
loop-preserved g c =
    rw c.in_ok-push.ensures.items
    (goes_on (g.T.FromReader.read_at c.args.pool.now) _ c.args.count c.loop.counter c.loop.reader
    c.in_ok-next.next c.read.new.reader _ c.loop-test.true c.in_ok-next.ensures c.loop.invariant)

pub returns : goal.returns
returns g c =
    rw c.of.ensures
    (is_done (g.T.FromReader.read_at c.args.pool.now) _ c.args.count c.loop.counter c.loop.reader _
    c.loop-test.false c.loop.invariant)
