-- What contracts see of the reader's own table.
use Rattle.std.specs.Prelude.{ℕ, List, Result, Ok, Err}
use Rattle.std.specs.Borrow.{Bor}
use Rattle.pool_reader.specs.declared.fault.ClassKind.{ClassKind}
use Rattle.pool_reader.specs.declared.pool.PoolEntry.{PoolEntry}
use Rattle.pool_reader.specs.declared.pool.PoolEntry.TheVariants as read
use Rattle.pool_reader.specs.Pooled as row
use Rattle.pool_reader.specs.Pooled.{Row}

-- a row, without where its text lies in memory
abbrev pub row_seen : PoolEntry → Row
row_seen (read.Text text) = row.TextRow text.now
row_seen read.Malformed = row.MalformedRow
row_seen (read.Integer bits) = row.IntegerRow bits
row_seen (read.Float bits) = row.FloatRow bits
row_seen (read.Long bits) = row.LongRow bits
row_seen (read.Double bits) = row.DoubleRow bits
row_seen (read.Class n) = row.ClassRow n
row_seen (read.Str n) = row.StringRow n
row_seen read.Unread = row.UnreadRow

abbrev pub text_seen : Result (Bor (List ℕ)) ClassKind → Result (List ℕ) ClassKind
text_seen (Ok text) = Ok text.now
text_seen (Err kind) = Err kind
