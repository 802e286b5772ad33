use Rattle.std.proofs.Common.{◌≡◌, ◌+◌, ◌-◌, ◌*◌}
use Rattle.pool_reader.specs.Reading.{times}
use Rattle.pool_reader.proofs.Times.{with_front}
use Rattle.attribute_reader.specs.Values.{value_at, element_at}
use Rattle.attribute_reader.proofs.values.+values.Given as goal

-- values are nested less deep in each value; the functions in the order of their calls

abbrev pub decreases-value : goal.decreases-value
decreases-value l = 10 * l.left

abbrev pub decreases-behind_tag : goal.decreases-behind_tag
decreases-behind_tag l = 10 * l.left + 9

abbrev pub decreases-nested : goal.decreases-nested
decreases-nested l = 10 * l.left + 8

abbrev pub decreases-annotation_with : goal.decreases-annotation_with
decreases-annotation_with l = 10 * l.left + 7

abbrev pub decreases-counted_elements : goal.decreases-counted_elements
decreases-counted_elements l = 10 * l.left + 6

abbrev pub decreases-elements : goal.decreases-elements
decreases-elements l = 10 * l.left + 5

abbrev pub decreases-element : goal.decreases-element
decreases-element l = 10 * l.left + 4

abbrev pub decreases-list : goal.decreases-list
decreases-list l = 10 * l.left + 8

abbrev pub decreases-counted_values : goal.decreases-counted_values
decreases-counted_values l = 10 * l.left + 7

abbrev pub decreases-values : goal.decreases-values
decreases-values l = 10 * l.left + 6

abbrev pub invariant-values-loop : goal.invariant-values-loop
invariant-values-loop l =
    let read = value_at l.pool l.left in
    with_front l.values.items (times read (l.count - l.counter) l.reader)
    ≡ times read l.count l.fn.reader

abbrev pub invariant-elements-loop : goal.invariant-elements-loop
invariant-elements-loop l =
    let read = element_at l.pool (value_at l.pool l.left) in
    with_front l.elements.items (times read (l.count - l.counter) l.reader)
    ≡ times read l.count l.fn.reader
