use Rattle.java_grammar.proofs.Counting.{group_at}
use Rattle.java_grammar.proofs.counts.inside_group.Goals as goal

pub returns-in-len1-up : goal.returns-in-len1-up
returns-in-len1-up c =
    group_at _ _ _ _ _ _ c.in-len1-up.len_at_least c.first-item.is c.of.ensures
    c.is_group_start.ensures c.if-is_group_start.true c.group_length.ensures.counted
    c.saturating_sub.ensures
