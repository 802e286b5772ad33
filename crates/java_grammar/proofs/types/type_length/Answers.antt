use Rattle.std.proofs.Common.{arith}
use Rattle.java_grammar.specs.Extents.{row_of, dimension_at, type_from}
use Rattle.java_grammar.proofs.Rows.{goes_on, goes_not_on}
use Rattle.java_grammar.proofs.types.type_length.Goals as goal

pub returns-then-base-eq0-clause-counted : goal.returns-then-base-eq0-clause-counted
unfolding type_from
returns-then-base-eq0-clause-counted c = goes_not_on
    (row_of dimension_at) _ _ _ c.base_length-base.ensures.counted c.if-base-eq0.true

pub returns-clause-counted : goal.returns-clause-counted
unfolding type_from
returns-clause-counted c = goes_on
    (row_of dimension_at) _ _ _ _ c.base_length-base.ensures.counted
    (omega arith) c.dimensions_length.ensures.counted
