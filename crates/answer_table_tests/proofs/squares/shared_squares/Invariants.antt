use Rattle.answer_table_tests.specs.Squares.{squares_of}
use Rattle.answer_table_tests.proofs.squares.shared_squares.Given as goal

abbrev pub ghosts-listed_squares : goal.ghosts-listed_squares
ghosts-listed_squares g a = record { listed = squares_of a.words }
