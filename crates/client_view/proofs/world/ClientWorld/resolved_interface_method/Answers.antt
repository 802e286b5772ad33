use Rattle.client_view.specs.Members.{named}
use Rattle.client_view.specs.Numbers.{views}
use Rattle.client_view.proofs.Resolved.{in_itself, behind_itself}
use Rattle.client_view.proofs.world.ClientWorld.resolved_interface_method.Goals as goal

pub returns-in-Some-clause-met : goal.returns-in-Some-clause-met
returns-in-Some-clause-met c = λ v at.
    in_itself (views c.args.self.now) v.name (named c.args.name.now c.args.descriptor.now)
    c.in-Some.met (c.in-Some.ensures.met v at)

pub returns-in-None-clause-met : goal.returns-in-None-clause-met
returns-in-None-clause-met c = λ v at.
    behind_itself (views c.args.self.now) v.name (named c.args.name.now c.args.descriptor.now)
    c.inherited_interface_method.result (c.in-None.ensures.met v at)
    (c.inherited_interface_method.ensures.met v at)
