use Rattle.std.proofs.Common.{◌∙◌}
use Rattle.std.proofs.lemmas.Bool.{eq-eqb}
use Rattle.java_lexer.proofs.EscapeLemmas.{found_here, not_here, none_left, differs}
use Rattle.java_lexer.proofs.escape.look_up.Goals as goal

pub returns-then-unit-sign : goal.returns-then-unit-sign
returns-then-unit-sign c =
    found_here _ _ c.args.entries.now c.args.unit c.loop-sign-test.true
    (eq-eqb _ _ c.if-unit-sign.true) ∙ c.loop-sign.invariant

pub loop-sign-preserved : goal.loop-sign-preserved
loop-sign-preserved c =
    not_here _ _ c.args.entries.now c.args.unit c.loop-sign-test.true
    (differs _ _ c.if-unit-sign.false) ∙ c.loop-sign.invariant

pub returns : goal.returns
returns c = none_left _ c.args.entries.now c.args.unit c.loop-sign-test.false
    ∙ c.loop-sign.invariant
