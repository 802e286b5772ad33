use Rattle.std.proofs.Common.{◌≡◌, subst, List, Some}
use Rattle.std.specs.Prelude.{slice_get}
use Rattle.class_desc.specs.declared.class.ClassDesc.{ClassDesc}
use Rattle.class_views.specs.Resolution.{from_superinterfaces}
use Rattle.class_views.specs.View.{View}
use Rattle.client_view.specs.Members.{named, Meets}
use Rattle.client_view.specs.Numbers.{views}
use Rattle.client_view.specs.Replies.{methods_of}
use Rattle.client_view.proofs.Resolved.{in_chain, behind_chain}
use Rattle.client_view.proofs.world.ClientWorld.resolved_method.Goals as goal

pub returns-in-Some-clause-met : goal.returns-in-Some-clause-met
returns-in-Some-clause-met c = λ v at.
    in_chain (views c.args.self.now) v.name (named c.args.name.now c.args.descriptor.now)
    c.in-Some.met (c.in-Some.ensures.met v at)

pub returns-in-None-clause-met : goal.returns-in-None-clause-met
returns-in-None-clause-met c = λ v at.
    behind_chain (views c.args.self.now) v.name (named c.args.name.now c.args.descriptor.now)
    c.superinterface_method.result (c.in-None.ensures.met v at)
    (subst (λ (classes : List ClassDesc). (u : View) →
    slice_get (views classes) c.args.class ≡ Some u →
    Meets (views classes) methods_of c.superinterface_method.result
    (from_superinterfaces (views classes) u.name (named c.args.name.now c.args.descriptor.now)))
    c.in-None.ensures.kept c.superinterface_method.ensures.met v at)
