use Rattle.type_expr_parser.proofs.Places.{Left}
use Rattle.type_expr_parser.proofs.place.place_behind.Given as goal

abbrev pub invariant-loop-at : goal.invariant-loop-at
invariant-loop-at l = Left l.tokens l.at l.left l.count
