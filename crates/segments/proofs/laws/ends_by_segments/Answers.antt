use Rattle.std.proofs.Common.{◌∙◌, sym, subst, []}
use Rattle.segments.specs.Cut.{is_end}
use Rattle.segments.specs.Places.{behind}
use Rattle.segments.specs.Segmentwise.{AreSegments}
use Rattle.segments.proofs.Ends.{between_ends, are_segments, only_segments}
use Rattle.segments.proofs.Places.{parts_are, left_is}
use Rattle.segments.proofs.laws.ends_by_segments.Goals as goal

pub returns-clause-are : goal.returns-clause-are
returns-clause-are c = λ ps.
    subst (λ parts. AreSegments ps parts (behind is_end ps)) (sym (parts_are ps))
    (subst (λ rest. AreSegments ps (between_ends [] ps) rest) (sym (left_is ps)) (are_segments ps))

pub returns-clause-alone : goal.returns-clause-alone
returns-clause-alone c = λ ps segments rest h.
    let only = only_segments h in
    (only.0 ∙ sym (parts_are ps), only.1 ∙ sym (left_is ps))
