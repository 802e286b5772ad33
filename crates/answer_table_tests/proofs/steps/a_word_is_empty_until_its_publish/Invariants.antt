use Rattle.answer_table_tests.specs.Squares.{squares_of}
use Rattle.answer_table_tests.proofs.steps.a_word_is_empty_until_its_publish.Given as goal

abbrev pub ghosts-around_a_publish : goal.ghosts-around_a_publish
ghosts-around_a_publish g a = record { listed = squares_of a.words }
