use Rattle.std.proofs.lemmas.List.{map_push}
use Rattle.std.proofs.lemmas.Result.{err_from_is_err_and}
use Rattle.pool_reader.specs.Seen.{row_seen}
use Rattle.pool_reader.proofs.Times.{row_goes_on, row_ends, rows_done}
use Rattle.pool_reader.proofs.reader.Reader.rows.Goals as goal

pub returns-in_err-entry : goal.returns-in_err-entry
returns-in_err-entry c =
    let p = err_from_is_err_and c.from_residual-in_err-entry.result
    c.from_residual-in_err-entry.ensures.1 in
    rw (p.1, p.2)
    (row_ends c.in_err-entry.field-0.0 c.loop-done.is_second _ c.args.count c.loop-done.done
    c.loop-done.self _ c.loop-done-test.true c.in_err-entry.ensures c.loop-done.invariant)

pub loop-done-preserved : goal.loop-done-preserved
loop-done-preserved c =
    rw (
      c.in_ok-push.ensures.items,
      c.is_wide-is_second.ensures,
      map_push row_seen c.loop-done.entries.items c.in_ok-entry.entry,
    )
    (row_goes_on c.loop-done.is_second _ c.args.count c.loop-done.done c.loop-done.self
    (row_seen c.in_ok-entry.entry) c.row.new.self _ c.loop-done-test.true c.in_ok-entry.ensures
    c.loop-done.invariant)

pub returns : goal.returns
returns c =
    rows_done c.loop-done.is_second _ c.args.count c.loop-done.done c.loop-done.self _
    c.loop-done-test.false c.loop-done.invariant
