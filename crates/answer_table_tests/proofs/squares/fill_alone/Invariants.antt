use Rattle.std.proofs.Common.{◌≡◌, ℕ, ◌≤◌, ◌<◌, true}
use Rattle.answer_table.specs.Views.{knows}
use Rattle.answer_table_tests.proofs.squares.fill_alone.Given as goal

abbrev pub invariant-loop-word : goal.invariant-loop-word
invariant-loop-word g l = record {
  table : l.seat.table ≡ l.fn.seat.table;
  filled : (i : ℕ) → l.fn.from ≤ i → i < l.word → knows l.seat.view i ≡ true;
}
