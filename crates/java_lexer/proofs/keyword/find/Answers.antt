use Rattle.std.proofs.Common.{◌∙◌, sym}
use Rattle.java_lexer.proofs.KeywordLemmas.{found_here, not_here, none_left}
use Rattle.java_lexer.proofs.keyword.find.Goals as goal

pub returns-then-eq : goal.returns-then-eq
returns-then-eq c = found_here _ _ c.args.entries.now c.args.word.now c.loop-text-test.true
    (sym (rw c.as_bytes.ensures.value at c.eq.ensures) ∙ c.if-eq.true) ∙ c.loop-text.invariant

pub loop-text-preserved : goal.loop-text-preserved
loop-text-preserved c = not_here _ _ c.args.entries.now c.args.word.now c.loop-text-test.true
    (sym (rw c.as_bytes.ensures.value at c.eq.ensures) ∙ c.if-eq.false) ∙ c.loop-text.invariant

pub returns : goal.returns
returns c = none_left _ c.args.entries.now c.args.word.now c.loop-text-test.false
    ∙ c.loop-text.invariant
