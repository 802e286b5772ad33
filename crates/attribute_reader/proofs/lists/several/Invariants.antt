use Rattle.std.proofs.Common.{◌≡◌, ◌-◌}
use Rattle.pool_reader.specs.Reading.{times}
use Rattle.pool_reader.proofs.Times.{with_front}
use Rattle.attribute_reader.proofs.lists.several.Given as goal

abbrev pub invariant-loop : goal.invariant-loop
invariant-loop g l =
    let read = g.T.FromReader.read_at l.pool in
    with_front l.items.items (times read (l.count - l.counter) l.reader)
    ≡ times read l.count l.fn.reader
