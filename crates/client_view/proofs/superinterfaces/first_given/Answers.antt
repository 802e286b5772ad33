use Rattle.std.proofs.Common.{sym, subst, Some, None, rules}
use Rattle.supertypes.specs.Walk.{walk}
use Rattle.class_views.specs.Resolution.{interface_method_in}
use Rattle.client_view.specs.Members.{Meets, declares}
use Rattle.client_view.specs.Sought.{meant}
use Rattle.client_view.specs.Numbers.{views}
use Rattle.client_view.specs.Replies.{methods_of}
use Rattle.client_view.proofs.Firsts.{walked, first_of_walk}
use Rattle.client_view.proofs.superinterfaces.first_given.Goals as goal

pub returns-in-Some-clause-met : goal.returns-in-Some-clause-met
returns-in-Some-clause-met c = λ v at.
    subst (Meets (views c.args.classes.now) methods_of c.given_at.result)
    (sym (first_of_walk (views c.args.classes.now) c.requires.apart c.args.graph.now
    c.requires.graph c.args.start v at
    (interface_method_in (meant c.args.sought.now))
    (Some c.in-Some.class)
    (c.in-Some.ensures.first (walk c.args.graph.now)
    (declares (views c.args.classes.now) (interface_method_in (meant c.args.sought.now)))
    (walked (views c.args.classes.now) c.requires.apart c.args.graph.now c.requires.graph
    c.args.start c.requires.free)
    (λ k b p. search (rules, c.requires.indexed)))))
    c.given_at.ensures.met

pub returns-in-None-clause-met : goal.returns-in-None-clause-met
returns-in-None-clause-met c = λ v at.
    first_of_walk (views c.args.classes.now) c.requires.apart c.args.graph.now
    c.requires.graph c.args.start v at
    (interface_method_in (meant c.args.sought.now)) None
    (c.in-None.ensures.first (walk c.args.graph.now)
    (declares (views c.args.classes.now) (interface_method_in (meant c.args.sought.now)))
    (walked (views c.args.classes.now) c.requires.apart c.args.graph.now c.requires.graph
    c.args.start c.requires.free)
    (λ k b p. search (rules, c.requires.indexed)))
