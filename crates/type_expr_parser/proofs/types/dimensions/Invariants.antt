use Rattle.std.proofs.Common.{◌≡◌, ◌-◌, ◌≤◌}
use Rattle.type_expr_parser.specs.Reading.{many_count}
use Rattle.type_expr_parser.specs.Types.{dimension_at}
use Rattle.type_expr_parser.proofs.Loops.{counted}
use Rattle.type_expr_parser.proofs.types.dimensions.Given as goal

abbrev pub invariant-loop : goal.invariant-loop
invariant-loop l = record {
  few : l.count ≤ l.counter;
  told : counted l.count (many_count (dimension_at l.depth) (l.depth - l.counter) l.reader)
      ≡ many_count (dimension_at l.depth) l.depth l.fn.reader;
}
