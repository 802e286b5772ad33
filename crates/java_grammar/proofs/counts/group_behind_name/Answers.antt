use Rattle.java_grammar.proofs.Counting.{group_behind}
use Rattle.java_grammar.proofs.counts.group_behind_name.Goals as goal

pub returns : goal.returns
returns c = group_behind _ _ _ c.name_length.ensures.counted c.inside_group.ensures
