use Rattle.std.proofs.Common.{◌≡◌, ◌≤◌, ◌+◌, ◌*◌, length, drop}
use Rattle.java_grammar.specs.Marks.{marks}
use Rattle.type_expr_parser.proofs.place.marks_of.Given as goal

abbrev pub invariant-loop-at : goal.invariant-loop-at
invariant-loop-at l = record {
  few : l.count ≤ 3 * l.at;
  counted : l.count + length (marks (drop l.at l.tokens)) ≡ length (marks l.tokens);
}
