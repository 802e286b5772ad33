use Rattle.java_grammar.specs.Extents.{modifiers_from, typed_from, behind_from}
use Rattle.java_grammar.proofs.Rows.{behind_one}
use Rattle.java_grammar.proofs.extent.behind_length.Goals as goal

pub returns-clause-counted : goal.returns-clause-counted
unfolding behind_from
returns-clause-counted c = behind_one modifiers_from typed_from _ _ _
    c.modifiers_length-modifiers.ensures.counted c.typed_length.ensures.counted
