use Rattle.std.proofs.Common.{◌≡◌, subst, List}
use Rattle.std.specs.Prelude.{slice_get, Some}
use Rattle.class_desc.specs.declared.class.ClassDesc.{ClassDesc}
use Rattle.class_views.specs.View.{View}
use Rattle.class_views.specs.World.{is_among, chain}
use Rattle.client_view.specs.Numbers.{views}
use Rattle.client_view.proofs.Above.{chain_is}
use Rattle.client_view.proofs.world.ClientWorld.is_on_chain.Goals as goal

pub returns-clause-is : goal.returns-clause-is
returns-clause-is c =
    subst (λ (classes : List ClassDesc). (v u : View) →
    slice_get (views classes) c.args.lower ≡ Some v →
    slice_get (views classes) c.args.upper ≡ Some u →
    c.reaches.result ≡ is_among u.name (chain (views classes) v.name)) c.self.view_is
    (λ v u at there. chain_is (views c.self.inside.classes.items) c.self.invariant.apart
    c.self.inside.superclasses c.self.invariant.superclasses_are c.args.lower c.args.upper v u at
    there c.reaches.result c.reaches.ensures.is)
