use Rattle.java_grammar.proofs.Rows.{referred, not_referred}
use Rattle.java_grammar.proofs.extent.referred_length.Goals as goal

pub returns-then-begins_with_double_colon-clause-counted :
    goal.returns-then-begins_with_double_colon-clause-counted
returns-then-begins_with_double_colon-clause-counted c =
    referred _ _ _ c.type_length-whole.ensures.counted c.begins_with_double_colon.ensures
    c.if-begins_with_double_colon.true

pub returns-else-begins_with_double_colon-clause-counted :
    goal.returns-else-begins_with_double_colon-clause-counted
returns-else-begins_with_double_colon-clause-counted c =
    not_referred _ _ _ c.type_length-whole.ensures.counted c.begins_with_double_colon.ensures
    c.if-begins_with_double_colon.false
