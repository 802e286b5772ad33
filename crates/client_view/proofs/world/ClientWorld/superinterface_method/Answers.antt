use Rattle.std.proofs.Common.{◌≡◌, ◌∙◌, subst, sym, List}
use Rattle.std.specs.Prelude.{slice_get, Some}
use Rattle.class_desc.specs.declared.class.ClassDesc.{ClassDesc}
use Rattle.class_views.specs.Resolution.{NameAndType, from_superinterfaces}
use Rattle.class_views.specs.View.{View}
use Rattle.member_index.specs.Index.{IsIndexOf}
use Rattle.client_view.specs.Indexed.{HaveFewMembers}
use Rattle.client_view.specs.Members.{Meets}
use Rattle.client_view.specs.Numbers.{views, AreApart}
use Rattle.client_view.specs.Replies.{methods_of}
use Rattle.client_view.specs.Sought.{meant}
use Rattle.client_view.proofs.world.ClientWorld.superinterface_method.Goals as goal

pub from_superinterfaces-requires-clause-few : goal.from_superinterfaces-requires-clause-few
from_superinterfaces-requires-clause-few c =
    subst HaveFewMembers (sym c.deref.ensures.value) c.self.invariant.members

pub from_superinterfaces-requires-clause-indexed : goal.from_superinterfaces-requires-clause-indexed
from_superinterfaces-requires-clause-indexed c =
    subst (IsIndexOf c.self.inside.members) (sym c.deref.ensures.value)
    c.self.invariant.members_are

pub from_superinterfaces-requires-clause-apart : goal.from_superinterfaces-requires-clause-apart
from_superinterfaces-requires-clause-apart c =
    subst (λ (classes : List ClassDesc). AreApart (views classes)) (sym c.deref.ensures.value)
    c.self.invariant.apart

pub returns-clause-met : goal.returns-clause-met
returns-clause-met c =
    let result = c.from_superinterfaces.result in
    subst (λ (s : NameAndType). (v : View) →
    slice_get (views c.args.self.now) c.args.class ≡ Some v →
    Meets (views c.args.self.now) methods_of result
    (from_superinterfaces (views c.args.self.now) v.name s)) c.of-sought.ensures
    (subst (λ (classes : List ClassDesc). (v : View) →
    slice_get (views classes) c.args.class ≡ Some v → Meets (views classes) methods_of result
    (from_superinterfaces (views classes) v.name (meant c.of-sought.result)))
    (c.deref.ensures.value ∙ c.self.view_is) c.from_superinterfaces.ensures.met)
