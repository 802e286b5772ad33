use Rattle.std.proofs.Common.{◌≡◌, ◌+◌, ◌-◌, ◌*◌}
use Rattle.type_expr_parser.specs.Reading.{prepended, many}
use Rattle.type_expr_parser.specs.Expressions.{nested_at, chain_over, link_over}
use Rattle.type_expr_parser.proofs.expression.+expressions.Given as goal

-- less deep in each nested one; the functions in the order of their calls

abbrev pub decreases-expression : goal.decreases-expression
decreases-expression l = 100 * l.depth

abbrev pub decreases-operand : goal.decreases-operand
decreases-operand l = 100 * l.depth

abbrev pub decreases-cast : goal.decreases-cast
decreases-cast l = 100 * l.depth + 1

abbrev pub decreases-prefixed : goal.decreases-prefixed
decreases-prefixed l = 100 * l.depth + 1

abbrev pub decreases-chosen : goal.decreases-chosen
decreases-chosen l = 100 * l.depth + 1

abbrev pub decreases-behind_name : goal.decreases-behind_name
decreases-behind_name l = 100 * l.depth + 2

abbrev pub decreases-primitive_cast : goal.decreases-primitive_cast
decreases-primitive_cast l = 100 * l.depth + 2

abbrev pub decreases-grouped : goal.decreases-grouped
decreases-grouped l = 100 * l.depth + 3

abbrev pub decreases-opened : goal.decreases-opened
decreases-opened l = 100 * l.depth + 4

abbrev pub decreases-unprefixed : goal.decreases-unprefixed
decreases-unprefixed l = 100 * l.depth + 5

abbrev pub decreases-unary : goal.decreases-unary
decreases-unary l = 100 * l.depth + 6

abbrev pub decreases-chain : goal.decreases-chain
decreases-chain l = 100 * l.depth + (3 * l.loosest + 7)

abbrev pub decreases-link : goal.decreases-link
decreases-link l = 100 * l.depth + (3 * l.loosest + 8)

abbrev pub decreases-links : goal.decreases-links
decreases-links l = 100 * l.depth + (3 * l.loosest + 9)

abbrev pub decreases-conditional : goal.decreases-conditional
decreases-conditional l = 100 * l.depth + 38

abbrev pub invariant-links-loop : goal.invariant-links-loop
invariant-links-loop l =
    let item = link_over (chain_over (nested_at l.depth) l.depth l.loosest) l.loosest in
    prepended l.links.items (many item (l.depth - l.counter) l.reader)
    ≡ many item l.depth l.fn.reader
