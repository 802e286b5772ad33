use Rattle.std.proofs.Common.{sym, subst, Some, None, rules}
use Rattle.supertypes.specs.Walk.{walk}
use Rattle.class_views.specs.Resolution.{field_in}
use Rattle.client_view.specs.Members.{Meets, declares}
use Rattle.client_view.specs.Sought.{meant}
use Rattle.client_view.specs.Numbers.{views}
use Rattle.client_view.specs.Replies.{fields_of}
use Rattle.client_view.proofs.Firsts.{walked, field_first}
use Rattle.client_view.proofs.world.fields.field_in_walk.Goals as goal

pub returns-in-Some-clause-met : goal.returns-in-Some-clause-met
returns-in-Some-clause-met c = λ v at.
    subst (Meets (views c.args.classes.now) fields_of c.field_at.result)
    (sym (field_first (views c.args.classes.now) c.requires.apart c.args.graph.now
    c.requires.graph c.args.start v at (meant c.args.sought.now)
    (Some c.in-Some.class)
    (c.in-Some.ensures.first (walk c.args.graph.now)
    (declares (views c.args.classes.now) (field_in (meant c.args.sought.now)))
    (walked (views c.args.classes.now) c.requires.apart c.args.graph.now c.requires.graph
    c.args.start c.requires.free)
    (λ k b p. search (rules, c.requires.indexed)))))
    c.field_at.ensures.met

pub returns-in-None-clause-met : goal.returns-in-None-clause-met
returns-in-None-clause-met c = λ v at.
    field_first (views c.args.classes.now) c.requires.apart c.args.graph.now
    c.requires.graph c.args.start v at (meant c.args.sought.now) None
    (c.in-None.ensures.first (walk c.args.graph.now)
    (declares (views c.args.classes.now) (field_in (meant c.args.sought.now)))
    (walked (views c.args.classes.now) c.requires.apart c.args.graph.now c.requires.graph
    c.args.start c.requires.free)
    (λ k b p. search (rules, c.requires.indexed)))
