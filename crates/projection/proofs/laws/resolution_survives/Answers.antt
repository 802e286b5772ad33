use Rattle.std.proofs.Common.{sym, ◌∙◌}
use Rattle.std.proofs.lemmas.Bool.{false≢true}
use Rattle.projection.proofs.Answered.{survives}
use Rattle.projection.proofs.laws.resolution_survives.Goals as goal

pub returns : goal.returns
returns c =
    λ read gone world less client query shows asked other. survives shows client
    asked.superclass_stays asked (λ member. absurd (false≢true (sym other ∙ member)))
