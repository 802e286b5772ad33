use Rattle.std.proofs.Common.{subst, sym, Option}
use Rattle.class_views.specs.Resolution.{Declared}
use Rattle.client_view.specs.Members.{Meets}
use Rattle.client_view.specs.Numbers.{views}
use Rattle.client_view.specs.Replies.{methods_of}
use Rattle.client_view.proofs.superinterfaces.from_superinterfaces.Goals as goal

pub returns-in-Some-clause-met : goal.returns-in-Some-clause-met
returns-in-Some-clause-met c = λ v at.
    subst (λ (o : Option Declared). Meets (views c.args.classes.now) methods_of c.given_at.result o)
    (sym (c.in-Some.ensures.chosen v at)) c.given_at.ensures.met

pub returns-in-None-clause-met : goal.returns-in-None-clause-met
returns-in-None-clause-met c = λ v at.
    subst (λ (o : Option Declared).
    Meets (views c.args.classes.now) methods_of c.first_given.result o)
    (sym (c.in-None.ensures.chosen v at)) (c.first_given.ensures.met v at)
