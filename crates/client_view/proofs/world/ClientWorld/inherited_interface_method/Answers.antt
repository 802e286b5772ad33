use Rattle.client_view.specs.Members.{named}
use Rattle.client_view.specs.Numbers.{views}
use Rattle.client_view.proofs.Resolved.{in_object, behind_object}
use Rattle.client_view.proofs.world.ClientWorld.inherited_interface_method.Goals as goal

pub returns-in-Some-clause-met : goal.returns-in-Some-clause-met
returns-in-Some-clause-met c = λ v at.
    in_object (views c.args.self.now) v.name (named c.args.name.now c.args.descriptor.now)
    c.in-Some.met c.in-Some.ensures.met

pub returns-in-None-clause-met : goal.returns-in-None-clause-met
returns-in-None-clause-met c = λ v at.
    behind_object (views c.args.self.now) v.name (named c.args.name.now c.args.descriptor.now)
    c.superinterface_method.result c.in-None.ensures.met (c.superinterface_method.ensures.met v at)
