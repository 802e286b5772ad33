use Rattle.std.proofs.Common.{◌≡◌, ◌+◌, ◌-◌, ◌*◌, [], ◌∷◌}
use Rattle.type_expr_parser.specs.Reading.{prepended, many}
use Rattle.type_expr_parser.specs.Types.{type_at, further_part_over, further_arg_over}
use Rattle.type_expr_parser.proofs.types.+types.Given as goal

-- less deep in each nested one; the functions in the order of their calls

abbrev pub decreases-any_type : goal.decreases-any_type
decreases-any_type l = 20 * l.depth

abbrev pub decreases-reference : goal.decreases-reference
decreases-reference l = 20 * l.depth + 1

abbrev pub decreases-wildcard : goal.decreases-wildcard
decreases-wildcard l = 20 * l.depth + 2

abbrev pub decreases-arg : goal.decreases-arg
decreases-arg l = 20 * l.depth + 3

abbrev pub decreases-further_arg : goal.decreases-further_arg
decreases-further_arg l = 20 * l.depth + 4

abbrev pub decreases-args_from : goal.decreases-args_from
decreases-args_from l = 20 * l.depth + 5

abbrev pub decreases-arg_list : goal.decreases-arg_list
decreases-arg_list l = 20 * l.depth + 6

abbrev pub decreases-args : goal.decreases-args
decreases-args l = 20 * l.depth + 7

abbrev pub decreases-any_args : goal.decreases-any_args
decreases-any_args l = 20 * l.depth + 8

abbrev pub decreases-part : goal.decreases-part
decreases-part l = 20 * l.depth + 9

abbrev pub decreases-further_part : goal.decreases-further_part
decreases-further_part l = 20 * l.depth + 10

abbrev pub decreases-parts_from : goal.decreases-parts_from
decreases-parts_from l = 20 * l.depth + 11

abbrev pub decreases-named : goal.decreases-named
decreases-named l = 20 * l.depth + 12

abbrev pub decreases-base : goal.decreases-base
decreases-base l = 20 * l.depth + 13

abbrev pub decreases-bare_type : goal.decreases-bare_type
decreases-bare_type l = 20 * l.depth + 14

abbrev pub invariant-args_from-loop : goal.invariant-args_from-loop
invariant-args_from-loop l =
    let item = further_arg_over (type_at l.depth) l.depth in
    prepended l.args.items (many item (l.depth - l.counter) l.reader)
    ≡ prepended (l.fn.first ∷ []) (many item l.depth l.fn.reader)

abbrev pub invariant-parts_from-loop : goal.invariant-parts_from-loop
invariant-parts_from-loop l =
    let item = further_part_over (type_at l.depth) l.depth in
    prepended l.parts.items (many item (l.depth - l.counter) l.reader)
    ≡ prepended (l.fn.first ∷ []) (many item l.depth l.fn.reader)
