use Rattle.std.proofs.Common.{◌≡◌, ◌-◌, [], ◌∷◌}
use Rattle.type_expr_parser.specs.Reading.{prepended, many}
use Rattle.productions.specs.Productions.{further_at}
use Rattle.productions.proofs.item.items_from.Given as goal

abbrev pub invariant-loop : goal.invariant-loop
invariant-loop g l =
    let item = further_at l.between g.I.Item.line l.depth in
    prepended l.items.items (many item (l.depth - l.counter) l.reader)
    ≡ prepended (l.fn.first ∷ []) (many item l.depth l.fn.reader)
