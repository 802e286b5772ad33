use Rattle.std.proofs.Common.{◌≡◌, ◌∙◌, subst, sym, List}
use Rattle.std.specs.Prelude.{slice_get, Some}
use Rattle.class_desc.specs.declared.class.ClassDesc.{ClassDesc}
use Rattle.class_views.specs.Resolution.{NameAndType, field_resolution}
use Rattle.class_views.specs.View.{View}
use Rattle.member_index.specs.Index.{IsIndexOf}
use Rattle.client_view.specs.Indexed.{HaveFewMembers}
use Rattle.client_view.specs.Members.{Meets}
use Rattle.client_view.specs.Numbers.{views, AreApart}
use Rattle.client_view.specs.Replies.{fields_of}
use Rattle.client_view.specs.Sought.{meant}
use Rattle.client_view.proofs.world.ClientWorld.first_field.Goals as goal

pub field_in_walk-requires-clause-few : goal.field_in_walk-requires-clause-few
field_in_walk-requires-clause-few c =
    subst HaveFewMembers (sym c.deref.ensures.value) c.self.invariant.members

pub field_in_walk-requires-clause-indexed : goal.field_in_walk-requires-clause-indexed
field_in_walk-requires-clause-indexed c =
    subst (IsIndexOf c.self.inside.members) (sym c.deref.ensures.value)
    c.self.invariant.members_are

pub field_in_walk-requires-clause-apart : goal.field_in_walk-requires-clause-apart
field_in_walk-requires-clause-apart c =
    subst (λ (classes : List ClassDesc). AreApart (views classes)) (sym c.deref.ensures.value)
    c.self.invariant.apart

pub returns-clause-met : goal.returns-clause-met
returns-clause-met c =
    let result = c.field_in_walk.result in
    subst (λ (s : NameAndType). (v : View) →
    slice_get (views c.args.self.now) c.args.class ≡ Some v →
    Meets (views c.args.self.now) fields_of result
    (field_resolution (views c.args.self.now) v.name s)) c.of-sought.ensures
    (subst (λ (classes : List ClassDesc). (v : View) →
    slice_get (views classes) c.args.class ≡ Some v → Meets (views classes) fields_of result
    (field_resolution (views classes) v.name (meant c.of-sought.result)))
    (c.deref.ensures.value ∙ c.self.view_is) c.field_in_walk.ensures.met)
