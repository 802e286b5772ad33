use Rattle.std.proofs.Common.{arith}
use Rattle.java_grammar.specs.Extents.{row_of, further_at, named_from}
use Rattle.java_grammar.proofs.Rows.{goes_on, goes_not_on}
use Rattle.java_grammar.proofs.types.named_length.Goals as goal

pub returns-then-first-eq0-clause-counted : goal.returns-then-first-eq0-clause-counted
unfolding named_from
returns-then-first-eq0-clause-counted c = goes_not_on
    (row_of further_at) _ _ _ c.first_length-first.ensures.counted c.if-first-eq0.true

pub returns-clause-counted : goal.returns-clause-counted
unfolding named_from
returns-clause-counted c = goes_on
    (row_of further_at) _ _ _ _ c.first_length-first.ensures.counted
    (omega arith) c.further_words_length.ensures.counted
