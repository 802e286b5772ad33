use Rattle.std.proofs.Common.{◌≡◌}
use Rattle.answer_table_tests.specs.Squares.{squares_of}
use Rattle.answer_table_tests.proofs.squares.read_all.Given as goal

abbrev pub invariant-loop-word : goal.invariant-loop-word
invariant-loop-word g l = l.all.items ≡ squares_of l.word
