use Rattle.std.proofs.Common.{◌≡◌, ◌∙◌, subst, sym, List}
use Rattle.std.specs.Prelude.{slice_get, Some}
use Rattle.class_desc.specs.declared.class.ClassDesc.{ClassDesc}
use Rattle.class_views.specs.Resolution.{NameAndType, first_declared, method_in}
use Rattle.class_views.specs.View.{View}
use Rattle.class_views.specs.World.{chain}
use Rattle.member_index.specs.Index.{IsIndexOf}
use Rattle.client_view.specs.Indexed.{HaveFewMembers}
use Rattle.client_view.specs.Members.{Meets}
use Rattle.client_view.specs.Numbers.{views, AreApart}
use Rattle.client_view.specs.Replies.{methods_of}
use Rattle.client_view.specs.Sought.{meant}
use Rattle.client_view.proofs.world.ClientWorld.chain_method.Goals as goal

pub method_in_chain-requires-clause-few : goal.method_in_chain-requires-clause-few
method_in_chain-requires-clause-few c =
    subst HaveFewMembers (sym c.deref.ensures.value) c.self.invariant.members

pub method_in_chain-requires-clause-indexed : goal.method_in_chain-requires-clause-indexed
method_in_chain-requires-clause-indexed c =
    subst (IsIndexOf c.self.inside.members) (sym c.deref.ensures.value)
    c.self.invariant.members_are

pub method_in_chain-requires-clause-apart : goal.method_in_chain-requires-clause-apart
method_in_chain-requires-clause-apart c =
    subst (λ (classes : List ClassDesc). AreApart (views classes)) (sym c.deref.ensures.value)
    c.self.invariant.apart

pub returns-clause-met : goal.returns-clause-met
returns-clause-met c =
    let result = c.method_in_chain.result in
    subst (λ (s : NameAndType). (v : View) →
    slice_get (views c.args.self.now) c.args.class ≡ Some v →
    Meets (views c.args.self.now) methods_of result
    (first_declared (method_in s) (chain (views c.args.self.now) v.name))) c.of-sought.ensures
    (subst (λ (classes : List ClassDesc). (v : View) →
    slice_get (views classes) c.args.class ≡ Some v → Meets (views classes) methods_of result
    (first_declared (method_in (meant c.of-sought.result)) (chain (views classes) v.name)))
    (c.deref.ensures.value ∙ c.self.view_is) c.method_in_chain.ensures.met)
