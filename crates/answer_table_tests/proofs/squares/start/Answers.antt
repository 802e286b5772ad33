use Rattle.std.proofs.Common.{length, ap, sym, ◌∙◌, subst}
use Rattle.answer_table.specs.Rule.{AreAnswers}
use Rattle.answer_table_tests.proofs.Listed.{length-squares_of, squares_are_answers}
use Rattle.answer_table_tests.proofs.squares.start.Goals as goal

pub start-requires-clause-count : goal.start-requires-clause-count
start-requires-clause-count g c = ap length c.requires.listed ∙ length-squares_of c.args.words

pub start-requires-clause-answers : goal.start-requires-clause-answers
start-requires-clause-answers g c =
    subst AreAnswers (sym c.requires.listed) (squares_are_answers c.args.words)
