use Rattle.std.proofs.Common.{◌≡◌, sym, subst, List, Option, Some}
use Rattle.std.specs.Prelude.{slice_get, option_to_list}
use Rattle.class_desc.specs.declared.class.ClassDesc.{ClassDesc}
use Rattle.class_views.specs.Resolution.{Declared, NameAndType, first_declared, method_in}
use Rattle.class_views.specs.View.{View}
use Rattle.class_views.specs.World.{class_of}
use Rattle.member_index.specs.Index.{IsIndexOf}
use Rattle.client_view.specs.Indexed.{HaveFewMembers}
use Rattle.client_view.specs.Members.{Meets, declared_at}
use Rattle.client_view.specs.Numbers.{views}
use Rattle.client_view.specs.Replies.{methods_of}
use Rattle.client_view.specs.Sought.{meant}
use Rattle.client_view.proofs.Resolved.{declared_in_itself}
use Rattle.client_view.proofs.world.ClientWorld.method_in_itself.Goals as goal

pub method_at-requires-clause-few : goal.method_at-requires-clause-few
method_at-requires-clause-few c =
    subst HaveFewMembers (sym c.deref.ensures.value) c.self.invariant.members

pub method_at-requires-clause-indexed : goal.method_at-requires-clause-indexed
method_at-requires-clause-indexed c =
    subst (IsIndexOf c.self.inside.members) (sym c.deref.ensures.value)
    c.self.invariant.members_are

pub returns-clause-met : goal.returns-clause-met
returns-clause-met c =
    let sought = meant c.of-sought.result in
    let world = views c.self.inside.classes.items in
    subst (λ (s : NameAndType). (u : View) →
    slice_get (views c.args.self.now) c.args.class ≡ Some u →
    Meets (views c.args.self.now) methods_of c.method_at.result (first_declared (method_in s)
    (option_to_list (class_of (views c.args.self.now) u.name)))) c.of-sought.ensures
    (subst (λ (classes : List ClassDesc). (u : View) →
    slice_get (views classes) c.args.class ≡ Some u →
    Meets (views classes) methods_of c.method_at.result (first_declared (method_in sought)
    (option_to_list (class_of (views classes) u.name)))) c.self.view_is
    (λ u there. subst (λ (o : Option Declared). Meets world methods_of c.method_at.result o)
    (sym (declared_in_itself world c.self.invariant.apart c.args.class u there (method_in sought)))
    (subst (λ (classes : List ClassDesc). Meets (views classes) methods_of c.method_at.result
    (declared_at (views classes) (method_in sought) c.args.class)) c.deref.ensures.value
    c.method_at.ensures.met)))
