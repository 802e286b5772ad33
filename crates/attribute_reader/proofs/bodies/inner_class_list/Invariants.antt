use Rattle.std.proofs.Common.{◌≡◌, ◌-◌, [], map}
use Rattle.attribute_reader.specs.Attributes.{HaveSame, next_inner_class_at}
use Rattle.attribute_reader.specs.Items.{growing}
use Rattle.attribute_reader.proofs.bodies.inner_class_list.Given as goal

abbrev pub invariant-loop : goal.invariant-loop
invariant-loop l =
    HaveSame l.seen (map (λ e. e.inner) l.entries.items)
    × (growing (next_inner_class_at l.pool) l.entries.items (l.count - l.counter) l.reader
    ≡ growing (next_inner_class_at l.pool) [] l.count l.fn.reader)
