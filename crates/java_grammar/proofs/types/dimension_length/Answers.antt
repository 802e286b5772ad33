use Rattle.java_grammar.specs.Extents.{brackets_at, dimension_at}
use Rattle.java_grammar.proofs.Rows.{annotated}
use Rattle.java_grammar.proofs.types.dimension_length.Goals as goal

pub returns-clause-counted : goal.returns-clause-counted
unfolding dimension_at
returns-clause-counted c =
    annotated brackets_at _ _ _ _ c.annotations_length-annotations.ensures.counted
    c.brackets_length.ensures.counted c.before-2.ensures
