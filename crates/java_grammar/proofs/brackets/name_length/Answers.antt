use Rattle.java_grammar.proofs.Passing.{name_step, name_end}
use Rattle.java_grammar.proofs.brackets.name_length.Goals as goal

pub loop-at-preserved : goal.loop-at-preserved
loop-at-preserved c =
    let h = c.loop-at.invariant in
    let s = name_step _ _ _ h.within c.is_further_word.ensures c.loop-at-test.true h.counted in
    record { counted = s.0; within = s.1 }

pub returns-clause-counted : goal.returns-clause-counted
returns-clause-counted c =
    let h = c.loop-at.invariant in name_end _ _ _ h.within c.is_further_word.ensures
    c.loop-at-test.false h.counted
