use Rattle.std.proofs.Common.{◌≡◌, ◌-◌}
use Rattle.pool_reader.specs.Reading.{times}
use Rattle.pool_reader.proofs.Times.{with_front}
use Rattle.attribute_reader.specs.Items.{class_at}
use Rattle.attribute_reader.proofs.lists.names.Given as goal

abbrev pub invariant-loop : goal.invariant-loop
invariant-loop l =
    with_front l.names.items (times (class_at l.pool) (l.count - l.counter) l.reader)
    ≡ times (class_at l.pool) l.count l.fn.reader
