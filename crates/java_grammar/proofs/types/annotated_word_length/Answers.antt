use Rattle.java_grammar.specs.Extents.{word_from}
use Rattle.java_grammar.proofs.Rows.{annotated}
use Rattle.java_grammar.proofs.types.annotated_word_length.Goals as goal

pub returns-clause-counted : goal.returns-clause-counted
returns-clause-counted c =
    annotated word_from _ _ _ _ c.annotations_length-annotations.ensures.counted
    c.word_length.ensures.counted c.before-2.ensures
