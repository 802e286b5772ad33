use Rattle.std.proofs.Common.{length}
use Rattle.std.proofs.lemmas.Option.{slice_get_within}
use Rattle.class_views.specs.Resolution.{field_in, is_meant}
use Rattle.class_views.specs.View.{view_of_field}
use Rattle.client_view.specs.Sought.{meant}
use Rattle.client_view.proofs.Meeting.{absent_met, field_meets, field_small}
use Rattle.client_view.proofs.Placed.{position_within}
use Rattle.client_view.proofs.Standing.{field_stands}
use Rattle.client_view.proofs.members.field_at.Goals as goal

pub field_met-requires-clause-few : goal.field_met-requires-clause-few
field_met-requires-clause-few c =
    (c.requires.few c.args.class c.in-Some.desc.now c.in-Some.ensures).fields

pub field_met-requires-clause-within : goal.field_met-requires-clause-within
field_met-requires-clause-within c =
    position_within (λ f. is_meant (meant c.args.sought.now) (view_of_field f))
    c.in-Some.desc.now.fields c.field_place-place.result
    (field_stands c.args.classes.now c.args.class c.args.sought.now c.in-Some.desc.now c.in-Some.ensures c.field_place-place.result
    (c.field_place-place.ensures c.requires.indexed))

pub returns-in-Some-clause-met : goal.returns-in-Some-clause-met
returns-in-Some-clause-met c =
    field_meets c.args.classes.now c.args.class c.in-Some.desc.now (meant c.args.sought.now)
    c.in-Some.ensures c.field_place-place.result
    (field_stands c.args.classes.now c.args.class c.args.sought.now c.in-Some.desc.now c.in-Some.ensures c.field_place-place.result
    (c.field_place-place.ensures c.requires.indexed)) c.field_met.result c.field_met.ensures

pub returns-in-Some-clause-there : goal.returns-in-Some-clause-there
returns-in-Some-clause-there c =
    field_small c.in-Some.desc.now c.args.class c.field_place-place.result c.field_met.result
    c.field_met.ensures
    (position_within (λ f. is_meant (meant c.args.sought.now) (view_of_field f))
    c.in-Some.desc.now.fields c.field_place-place.result
    (field_stands c.args.classes.now c.args.class c.args.sought.now c.in-Some.desc.now c.in-Some.ensures c.field_place-place.result
    (c.field_place-place.ensures c.requires.indexed))) (length c.args.classes.now)
    (slice_get_within c.args.classes.now c.args.class c.in-Some.desc.now c.in-Some.ensures)

pub returns-in-None-clause-met : goal.returns-in-None-clause-met
returns-in-None-clause-met c =
    absent_met c.args.classes.now c.args.class (field_in (meant c.args.sought.now))
    c.in-None.ensures
