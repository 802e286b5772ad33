use Rattle.std.proofs.Common.{◌≡◌, ◌+◌, ◌-◌, []}
use Rattle.pool_reader.specs.Reading.{times}
use Rattle.pool_reader.proofs.Times.{with_front}
use Rattle.attribute_reader.specs.Attributes.{attribute_at, component_at, component_of}
use Rattle.attribute_reader.specs.Items.{growing}
use Rattle.attribute_reader.proofs.Ranks.{rank}
use Rattle.attribute_reader.proofs.attribute.+attributes.Given as goal

abbrev pub decreases-attributes : goal.decreases-attributes
decreases-attributes l = rank l.place + 9

abbrev pub decreases-attribute_list : goal.decreases-attribute_list
decreases-attribute_list l = rank l.place + 8

abbrev pub decreases-attribute : goal.decreases-attribute
decreases-attribute l = rank l.place + 7

abbrev pub decreases-kept : goal.decreases-kept
decreases-kept l = rank l.place + 6

abbrev pub decreases-body_of : goal.decreases-body_of
decreases-body_of l = rank l.place + 5

abbrev pub decreases-record : goal.decreases-record
decreases-record l = rank l.place + 4

abbrev pub decreases-components : goal.decreases-components
decreases-components l = 15

abbrev pub decreases-component_list : goal.decreases-component_list
decreases-component_list l = 14

abbrev pub decreases-component : goal.decreases-component
decreases-component l = 13

abbrev pub invariant-attribute_list-loop : goal.invariant-attribute_list-loop
invariant-attribute_list-loop l =
    let read = attribute_at l.pool (component_of l.pool l.place) l.place l.descriptor in
    growing read l.attrs.items (l.count - l.counter) l.reader
    ≡ growing read [] l.count l.fn.reader

abbrev pub invariant-component_list-loop : goal.invariant-component_list-loop
invariant-component_list-loop l =
    let read = component_at l.pool in
    with_front l.components.items (times read (l.count - l.counter) l.body)
    ≡ times read l.count l.fn.body
