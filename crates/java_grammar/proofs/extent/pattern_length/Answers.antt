use Rattle.java_grammar.specs.Extents.{pattern_modifiers_from, typed_from, pattern_from}
use Rattle.java_grammar.proofs.Rows.{behind_one}
use Rattle.java_grammar.proofs.extent.pattern_length.Goals as goal

pub returns-clause-counted : goal.returns-clause-counted
unfolding pattern_from
returns-clause-counted c = behind_one pattern_modifiers_from typed_from _ _ _
    c.pattern_modifiers_length-modifiers.ensures.counted c.typed_length.ensures.counted
