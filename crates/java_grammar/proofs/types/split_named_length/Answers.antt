use Rattle.std.proofs.Common.{arith}
use Rattle.java_grammar.specs.Extents.{split_behind}
use Rattle.java_grammar.proofs.Rows.{goes_on_from_last}
use Rattle.java_grammar.proofs.types.split_named_length.Goals as goal

pub returns-clause-counted : goal.returns-clause-counted
returns-clause-counted c = goes_on_from_last
    (split_behind) _ _ _ _ c.named_length-named.ensures.counted
    (omega arith) c.split_length.ensures.counted
