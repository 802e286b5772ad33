use Rattle.std.proofs.Common.{◌≡◌, ◌+◌, ◌-◌, ◌*◌, [], ◌∷◌}
use Rattle.type_expr_parser.specs.Reading.{prepended, many}
use Rattle.type_expr_parser.specs.Annotations.{value_at, further_value_over, further_pair_over}
use Rattle.type_expr_parser.proofs.annotation.+values.Given as goal

-- less deep in each nested one; the functions in the order of their calls

abbrev pub decreases-value : goal.decreases-value
decreases-value l = 20 * l.depth

abbrev pub decreases-further_value : goal.decreases-further_value
decreases-further_value l = 20 * l.depth + 1

abbrev pub decreases-sole : goal.decreases-sole
decreases-sole l = 20 * l.depth + 1

abbrev pub decreases-pair : goal.decreases-pair
decreases-pair l = 20 * l.depth + 1

abbrev pub decreases-values_from : goal.decreases-values_from
decreases-values_from l = 20 * l.depth + 2

abbrev pub decreases-further_pair : goal.decreases-further_pair
decreases-further_pair l = 20 * l.depth + 2

abbrev pub decreases-values : goal.decreases-values
decreases-values l = 20 * l.depth + 3

abbrev pub decreases-pairs_from : goal.decreases-pairs_from
decreases-pairs_from l = 20 * l.depth + 3

abbrev pub decreases-list : goal.decreases-list
decreases-list l = 20 * l.depth + 4

abbrev pub decreases-pairs : goal.decreases-pairs
decreases-pairs l = 20 * l.depth + 4

abbrev pub decreases-inside : goal.decreases-inside
decreases-inside l = 20 * l.depth + 5

abbrev pub decreases-elements : goal.decreases-elements
decreases-elements l = 20 * l.depth + 6

abbrev pub decreases-any_elements : goal.decreases-any_elements
decreases-any_elements l = 20 * l.depth + 7

abbrev pub decreases-annotation_with : goal.decreases-annotation_with
decreases-annotation_with l = 20 * l.depth + 8

abbrev pub decreases-value_with : goal.decreases-value_with
decreases-value_with l = 20 * l.depth + 9

abbrev pub invariant-values_from-loop : goal.invariant-values_from-loop
invariant-values_from-loop l =
    let item = further_value_over (value_at l.depth) in
    prepended l.values.items (many item (l.depth - l.counter) l.reader)
    ≡ prepended (l.fn.first ∷ []) (many item l.depth l.fn.reader)

abbrev pub invariant-pairs_from-loop : goal.invariant-pairs_from-loop
invariant-pairs_from-loop l =
    let item = further_pair_over (value_at l.depth) in
    prepended l.args.items (many item (l.depth - l.counter) l.reader)
    ≡ prepended (l.fn.first ∷ []) (many item l.depth l.fn.reader)
