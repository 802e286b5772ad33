use Rattle.std.proofs.Common.{length}
use Rattle.std.proofs.lemmas.Option.{slice_get_within}
use Rattle.class_views.specs.View.{view_of_field}
use Rattle.client_view.specs.Members.{constant_in_class}
use Rattle.client_view.proofs.Constants.{constant_meets, is_held}
use Rattle.client_view.proofs.Meeting.{absent_met, field_small}
use Rattle.client_view.proofs.Placed.{position_within}
use Rattle.client_view.proofs.Standing.{constant_stands}
use Rattle.client_view.proofs.members.constant_at.Goals as goal

pub field_met-requires-clause-few : goal.field_met-requires-clause-few
field_met-requires-clause-few c =
    (c.requires.few c.args.class c.in-Some.desc.now c.in-Some.ensures).fields

pub field_met-requires-clause-within : goal.field_met-requires-clause-within
field_met-requires-clause-within c =
    position_within (λ f. is_held c.args.name.now (view_of_field f)) c.in-Some.desc.now.fields
    c.constant_place-place.result
    (constant_stands c.args.classes.now c.args.class
    c.in-Some.desc.now c.in-Some.ensures c.args.name.now c.fields_named-named.result.now (c.fields_named-named.ensures c.requires.indexed)
    c.constant_place-place.result c.items.result.now c.items.ensures
    c.constant_place-place.ensures)

pub returns-in-Some-clause-met : goal.returns-in-Some-clause-met
returns-in-Some-clause-met c =
    constant_meets c.args.classes.now c.args.class c.in-Some.desc.now c.args.name.now
    c.in-Some.ensures c.constant_place-place.result
    (constant_stands c.args.classes.now c.args.class
    c.in-Some.desc.now c.in-Some.ensures c.args.name.now c.fields_named-named.result.now (c.fields_named-named.ensures c.requires.indexed)
    c.constant_place-place.result c.items.result.now c.items.ensures
    c.constant_place-place.ensures)
    c.field_met.result c.field_met.ensures

pub returns-in-Some-clause-there : goal.returns-in-Some-clause-there
returns-in-Some-clause-there c =
    field_small c.in-Some.desc.now c.args.class c.constant_place-place.result c.field_met.result
    c.field_met.ensures
    (position_within (λ f. is_held c.args.name.now (view_of_field f)) c.in-Some.desc.now.fields
    c.constant_place-place.result
    (constant_stands c.args.classes.now c.args.class
    c.in-Some.desc.now c.in-Some.ensures c.args.name.now c.fields_named-named.result.now (c.fields_named-named.ensures c.requires.indexed)
    c.constant_place-place.result c.items.result.now c.items.ensures
    c.constant_place-place.ensures))
    (length c.args.classes.now)
    (slice_get_within c.args.classes.now c.args.class c.in-Some.desc.now c.in-Some.ensures)

pub returns-in-None-clause-met : goal.returns-in-None-clause-met
returns-in-None-clause-met c =
    absent_met c.args.classes.now c.args.class (constant_in_class c.args.name.now)
    c.in-None.ensures
