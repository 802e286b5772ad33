use Rattle.answer_table_tests.proofs.Listed.{square_found}
use Rattle.answer_table_tests.proofs.squares.answer.Goals as goal

pub returns-in-Some-clause-answer : goal.returns-in-Some-clause-answer
returns-in-Some-clause-answer g c =
    let words = c.args.table.now.words in
    square_found g.L.Listing.listed words c.args.word c.in-Some.found
    c.requires.listed c.requires.word c.in-Some.ensures.answer
