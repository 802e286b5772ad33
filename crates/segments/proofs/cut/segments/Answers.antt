use Rattle.segments.proofs.Whole.{answers_at_end, exact_at_end}
use Rattle.segments.proofs.cut.segments.Goals as goal

pub returns-clause-exact : goal.returns-clause-exact
returns-clause-exact c =
    exact_at_end 64 c.args.tokens.now c.finish.result c.loop-token.cutter _ c.loop-token-test.false
    c.loop-token.invariant c.finish.ensures

pub returns-clause-answers : goal.returns-clause-answers
returns-clause-answers c =
    answers_at_end 64 c.args.tokens.now c.finish.result c.loop-token.cutter _
    c.loop-token-test.false c.loop-token.invariant c.finish.ensures
