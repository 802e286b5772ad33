use Rattle.answer_table_tests.specs.Squares.{squares_of}
use Rattle.answer_table_tests.proofs.steps.tables_and_seats_may_be_let_go.Given as goal

abbrev pub ghosts-let_go : goal.ghosts-let_go
ghosts-let_go g a = record { listed = squares_of 1 }
