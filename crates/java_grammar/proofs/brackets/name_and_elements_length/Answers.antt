use Rattle.java_grammar.proofs.Passing.{name_elements}
use Rattle.java_grammar.proofs.brackets.name_and_elements_length.Goals as goal

pub returns-clause-counted : goal.returns-clause-counted
returns-clause-counted c = name_elements _ _ _ c.name_length-name.ensures.counted
    c.elements_length.ensures.counted
