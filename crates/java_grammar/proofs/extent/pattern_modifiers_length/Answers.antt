use Rattle.java_grammar.specs.Extents.{annotations_from, modifiers_from}
use Rattle.java_grammar.proofs.Rows.{behind_one}
use Rattle.java_grammar.proofs.extent.pattern_modifiers_length.Goals as goal

pub returns-clause-counted : goal.returns-clause-counted
returns-clause-counted c = behind_one annotations_from modifiers_from _ _ _
    c.annotations_length-annotations.ensures.counted c.modifiers_length.ensures.counted
