use Rattle.answer_table_tests.specs.Squares.{squares_of}
use Rattle.answer_table_tests.proofs.steps.seats_see_what_the_other_published.Given as goal

abbrev pub ghosts-by_two_seats : goal.ghosts-by_two_seats
ghosts-by_two_seats g a = record { listed = squares_of 3 }
