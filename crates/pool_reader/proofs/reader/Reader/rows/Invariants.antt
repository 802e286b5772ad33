use Rattle.std.proofs.Common.{◌≡◌, ◌-◌, false, map}
use Rattle.pool_reader.specs.Pooled.{rows_at}
use Rattle.pool_reader.specs.Seen.{row_seen}
use Rattle.pool_reader.proofs.Times.{with_front}
use Rattle.pool_reader.proofs.reader.Reader.rows.Given as goal

abbrev pub invariant-loop-done : goal.invariant-loop-done
invariant-loop-done l =
    with_front (map row_seen l.entries.items) (rows_at l.is_second (l.count - l.done) l.self)
    ≡ rows_at false l.count l.fn.self
