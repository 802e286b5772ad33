use Rattle.std.proofs.Common.{◌≡◌, ◌-◌}
use Rattle.type_expr_parser.specs.Reading.{prepended, many}
use Rattle.productions.proofs.item.row.Given as goal

abbrev pub invariant-loop : goal.invariant-loop
invariant-loop g l =
    let item = g.I.Item.line.read l.depth in
    prepended l.items.items (many item (l.depth - l.counter) l.reader)
    ≡ many item l.depth l.fn.reader
