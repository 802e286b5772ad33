use Rattle.std.proofs.Common.{arith}
use Rattle.answer_table_tests.proofs.Listed.{squares_grow}
use Rattle.answer_table_tests.proofs.squares.read_all.Goals as goal

pub loop-word-preserved : goal.loop-word-preserved
loop-word-preserved g c =
    let all = c.loop-word.all.items in
    let more = c.push.new.self.items in
    let word = c.loop-word.word in
    let read = c.in-Some.ensures.listed in
    let pushed = c.in_ok-push.ensures.items in
    squares_grow g.L.Listing.listed all more c.args.words word c.in-Some.answer
    c.requires.listed (omega arith) read c.loop-word.invariant pushed
