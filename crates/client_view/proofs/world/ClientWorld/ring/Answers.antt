use Rattle.std.proofs.Common.{◌≡◌, ◌∙◌, ◌<◌, ap, sym, subst, ℕ, List, length, Option, None, Some}
use Rattle.std.specs.Prelude.{slice_get, slice_index_or, option_and_then, IfSome}
use Rattle.class_desc.specs.declared.class.ClassDesc.{ClassDesc}
use Rattle.class_views.specs.View.{View}
use Rattle.class_views.specs.World.{ring_of}
use Rattle.client_view.specs.Numbers.{views}
use Rattle.client_view.proofs.Inside.{ring_is, ring_small}
use Rattle.client_view.proofs.world.ClientWorld.ring.Goals as goal

pub returns-clause-is : goal.returns-clause-is
returns-clause-is c =
    let ring : c.ring_at.result ≡ slice_index_or c.self.inside.rings.items c.args.class None =
    c.ring_at.ensures ∙ ap (λ l. slice_index_or l c.args.class None) c.deref.ensures.value in
    subst (λ (classes : List ClassDesc). (v : View) →
    slice_get (views classes) c.args.class ≡ Some v →
    ring_of (views classes) v.name ≡ option_and_then (slice_get (views classes)) c.ring_at.result)
    c.self.view_is (λ v at. ring_is c.self.inside c.self.invariant c.args.class v at
    ∙ ap (option_and_then (slice_get (views c.self.inside.classes.items))) (sym ring))

pub returns-clause-there : goal.returns-clause-there
returns-clause-there c =
    let ring : c.ring_at.result ≡ slice_index_or c.self.inside.rings.items c.args.class None =
    c.ring_at.ensures ∙ ap (λ l. slice_index_or l c.args.class None) c.deref.ensures.value in
    let small : c.args.class < length c.self.inside.classes.items =
    subst (λ (classes : List ClassDesc). c.args.class < length classes) (sym c.self.view_is)
    c.requires in
    subst (λ (o : Option ℕ). IfSome o (λ k. k < length c.args.self.now)) (sym ring)
    (subst (λ (classes : List ClassDesc).
    IfSome (slice_index_or c.self.inside.rings.items c.args.class None)
    (λ k. k < length classes)) c.self.view_is
    (ring_small c.self.inside c.self.invariant c.args.class small))
