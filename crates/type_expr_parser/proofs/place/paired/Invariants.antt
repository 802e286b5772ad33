use Rattle.std.proofs.Common.{◌≤◌, ◌-◌, length}
use Rattle.type_expr_parser.proofs.PairedMarks.{Scanned}
use Rattle.type_expr_parser.proofs.place.paired.Given as goal

abbrev pub invariant-loop-seen : goal.invariant-loop-seen
invariant-loop-seen l = record {
  few : l.closing ≤ l.seen;
  within : l.cut ≤ length l.tokens;
  scanned : Scanned l.tokens (length l.tokens - l.seen) l.cut l.closing;
}
