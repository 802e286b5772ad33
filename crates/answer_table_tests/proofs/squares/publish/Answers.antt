use Rattle.answer_table_tests.proofs.Listed.{listed_square}
use Rattle.answer_table_tests.proofs.squares.publish.Goals as goal

pub publish-requires-clause-answer : goal.publish-requires-clause-answer
publish-requires-clause-answer g c =
    let words = c.args.table.now.words in
    listed_square g.L.Listing.listed words c.args.word c.square.result
    c.requires.listed c.requires.word c.square.ensures
