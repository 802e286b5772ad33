use Rattle.projection.proofs.Answered.{survives}
use Rattle.projection.proofs.laws.membership_survives.Goals as goal

pub returns : goal.returns
returns c =
    λ read gone world less client query shows asked plain. survives shows client
    asked.superclass_stays asked (λ member. plain)
