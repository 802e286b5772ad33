use Rattle.std.proofs.Common.{◌≡◌, ◌-◌, ◌≤◌}
use Rattle.type_expr_parser.specs.Reading.{many_count}
use Rattle.type_expr_parser.specs.Names.{bracket_pair_at}
use Rattle.type_expr_parser.proofs.Loops.{counted}
use Rattle.type_expr_parser.proofs.name.bracket_pairs.Given as goal

abbrev pub invariant-loop : goal.invariant-loop
invariant-loop l = record {
  few : l.count ≤ l.counter;
  told : counted l.count (many_count bracket_pair_at (l.depth - l.counter) l.reader)
      ≡ many_count bracket_pair_at l.depth l.fn.reader;
}
