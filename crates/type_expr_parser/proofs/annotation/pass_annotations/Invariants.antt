use Rattle.std.proofs.Common.{◌≡◌, ◌-◌}
use Rattle.type_expr_parser.specs.Reading.{behind_many}
use Rattle.type_expr_parser.specs.Annotations.{annotation_at}
use Rattle.type_expr_parser.proofs.annotation.pass_annotations.Given as goal

abbrev pub invariant-loop : goal.invariant-loop
invariant-loop l =
    behind_many (annotation_at l.depth) (l.depth - l.counter) l.reader
    ≡ behind_many (annotation_at l.depth) l.depth l.fn.reader
