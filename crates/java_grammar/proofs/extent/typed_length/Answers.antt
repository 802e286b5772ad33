use Rattle.std.proofs.Common.{arith}
use Rattle.java_grammar.proofs.Rows.{typed_whole}
use Rattle.java_grammar.proofs.extent.typed_length.Goals as goal

pub returns-then-left-eq0-clause-counted : goal.returns-then-left-eq0-clause-counted
returns-then-left-eq0-clause-counted c =
    typed_whole _ _ c.in-Some.field-0 _ c.arguments.ensures.whole c.in-Some.is
    (omega arith) c.annotated_type_length-then-left-eq0.ensures.counted
