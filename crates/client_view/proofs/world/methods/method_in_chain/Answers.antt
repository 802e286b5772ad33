use Rattle.std.proofs.Common.{sym, subst, Some, None, rules}
use Rattle.supertypes.specs.Walk.{walk}
use Rattle.class_views.specs.Resolution.{method_in}
use Rattle.client_view.specs.Members.{Meets, declares}
use Rattle.client_view.specs.Sought.{meant}
use Rattle.client_view.specs.Numbers.{views}
use Rattle.client_view.specs.Replies.{methods_of}
use Rattle.client_view.proofs.Firsts.{chained, first_of_chain}
use Rattle.client_view.proofs.world.methods.method_in_chain.Goals as goal

pub returns-in-Some-clause-met : goal.returns-in-Some-clause-met
returns-in-Some-clause-met c = λ v at.
    subst (Meets (views c.args.classes.now) methods_of c.method_at.result)
    (sym (first_of_chain (views c.args.classes.now) c.requires.apart c.args.graph.now
    c.requires.graph c.args.start v at
    (method_in (meant c.args.sought.now))
    (Some c.in-Some.class)
    (c.in-Some.ensures.first (walk c.args.graph.now)
    (declares (views c.args.classes.now) (method_in (meant c.args.sought.now)))
    (chained (views c.args.classes.now) c.requires.apart c.args.graph.now c.requires.graph
    c.args.start c.requires.free)
    (λ k b p. search (rules, c.requires.indexed)))))
    c.method_at.ensures.met

pub returns-in-None-clause-met : goal.returns-in-None-clause-met
returns-in-None-clause-met c = λ v at.
    first_of_chain (views c.args.classes.now) c.requires.apart c.args.graph.now
    c.requires.graph c.args.start v at
    (method_in (meant c.args.sought.now)) None
    (c.in-None.ensures.first (walk c.args.graph.now)
    (declares (views c.args.classes.now) (method_in (meant c.args.sought.now)))
    (chained (views c.args.classes.now) c.requires.apart c.args.graph.now c.requires.graph
    c.args.start c.requires.free)
    (λ k b p. search (rules, c.requires.indexed)))
