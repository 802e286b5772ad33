use Rattle.java_grammar.specs.Extents.{longest_from}
use Rattle.java_grammar.proofs.Rows.{annotated}
use Rattle.java_grammar.proofs.types.annotated_type_length.Goals as goal

pub returns-clause-counted : goal.returns-clause-counted
returns-clause-counted c =
    annotated longest_from _ _ _ _ c.annotations_length-annotations.ensures.counted
    c.longest_length.ensures.counted c.before-2.ensures
