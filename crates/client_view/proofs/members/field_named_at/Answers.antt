use Rattle.std.proofs.Common.{length}
use Rattle.std.proofs.lemmas.Option.{slice_get_within}
use Rattle.java_names.specs.Names.{is_text}
use Rattle.client_view.specs.Members.{field_named_in}
use Rattle.client_view.proofs.Constants.{named_meets}
use Rattle.client_view.proofs.Meeting.{absent_met, field_small}
use Rattle.client_view.proofs.Placed.{position_within}
use Rattle.client_view.proofs.Standing.{named_stands}
use Rattle.client_view.proofs.members.field_named_at.Goals as goal

pub field_met-requires-clause-few : goal.field_met-requires-clause-few
field_met-requires-clause-few c =
    (c.requires.few c.args.class c.in-Some.desc.now c.in-Some.ensures).fields

pub field_met-requires-clause-within : goal.field_met-requires-clause-within
field_met-requires-clause-within c =
    position_within (λ f. is_text f.name c.args.name.now) c.in-Some.desc.now.fields
    c.place_at-place.result
    (named_stands c.args.classes.now c.args.class
    c.in-Some.desc.now c.in-Some.ensures c.args.name.now c.fields_named-named.result.now (c.fields_named-named.ensures c.requires.indexed)
    c.place_at-place.result c.place_at-place.ensures)

pub returns-in-Some-clause-met : goal.returns-in-Some-clause-met
returns-in-Some-clause-met c =
    named_meets c.args.classes.now c.args.class c.in-Some.desc.now c.args.name.now
    c.in-Some.ensures c.place_at-place.result
    (named_stands c.args.classes.now c.args.class
    c.in-Some.desc.now c.in-Some.ensures c.args.name.now c.fields_named-named.result.now (c.fields_named-named.ensures c.requires.indexed)
    c.place_at-place.result c.place_at-place.ensures)
    c.field_met.result c.field_met.ensures

pub returns-in-Some-clause-there : goal.returns-in-Some-clause-there
returns-in-Some-clause-there c =
    field_small c.in-Some.desc.now c.args.class c.place_at-place.result c.field_met.result
    c.field_met.ensures
    (position_within (λ f. is_text f.name c.args.name.now) c.in-Some.desc.now.fields
    c.place_at-place.result
    (named_stands c.args.classes.now c.args.class
    c.in-Some.desc.now c.in-Some.ensures c.args.name.now c.fields_named-named.result.now (c.fields_named-named.ensures c.requires.indexed)
    c.place_at-place.result c.place_at-place.ensures))
    (length c.args.classes.now)
    (slice_get_within c.args.classes.now c.args.class c.in-Some.desc.now c.in-Some.ensures)

pub returns-in-None-clause-met : goal.returns-in-None-clause-met
returns-in-None-clause-met c =
    absent_met c.args.classes.now c.args.class (field_named_in c.args.name.now)
    c.in-None.ensures
