use Rattle.std.proofs.Common.{subst, sym, ◌∙◌, List}
use Rattle.class_desc.specs.declared.class.ClassDesc.{ClassDesc}
use Rattle.class_views.specs.Resolution.{NameAndType, method_in}
use Rattle.member_index.specs.Index.{IsIndexOf}
use Rattle.client_view.specs.Indexed.{HaveFewMembers}
use Rattle.client_view.specs.Members.{Meets, declared_at}
use Rattle.client_view.specs.Numbers.{views}
use Rattle.client_view.specs.Replies.{methods_of}
use Rattle.client_view.specs.Sought.{meant}
use Rattle.client_view.proofs.world.ClientWorld.own_method.Goals as goal

pub method_at-requires-clause-few : goal.method_at-requires-clause-few
method_at-requires-clause-few c =
    subst HaveFewMembers (sym c.deref.ensures.value) c.self.invariant.members

pub method_at-requires-clause-indexed : goal.method_at-requires-clause-indexed
method_at-requires-clause-indexed c =
    subst (IsIndexOf c.self.inside.members) (sym c.deref.ensures.value)
    c.self.invariant.members_are

pub returns-clause-met : goal.returns-clause-met
returns-clause-met c =
    subst (λ (s : NameAndType). Meets (views c.args.self.now) methods_of c.method_at.result
    (declared_at (views c.args.self.now) (method_in s) c.args.class)) c.of-sought.ensures
    (subst (λ (classes : List ClassDesc). Meets (views classes) methods_of c.method_at.result
    (declared_at (views classes) (method_in (meant c.of-sought.result)) c.args.class))
    (c.deref.ensures.value ∙ c.self.view_is) c.method_at.ensures.met)
