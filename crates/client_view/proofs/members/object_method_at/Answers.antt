use Rattle.std.proofs.Common.{length, ◌&&◌, not}
use Rattle.std.proofs.lemmas.Option.{slice_get_within}
use Rattle.class_views.specs.Flags.{has_flag}
use Rattle.class_views.specs.Resolution.{object_method_in, is_meant}
use Rattle.class_views.specs.View.{view_of_method}
use Rattle.client_view.specs.Sought.{meant}
use Rattle.client_view.proofs.Givens.{shared_meets}
use Rattle.client_view.proofs.Meeting.{absent_met}
use Rattle.client_view.proofs.Methods.{method_small}
use Rattle.client_view.proofs.Placed.{position_within}
use Rattle.client_view.proofs.Standing.{shared_stands}
use Rattle.client_view.proofs.members.object_method_at.Goals as goal

pub method_met-requires-clause-few : goal.method_met-requires-clause-few
method_met-requires-clause-few c =
    (c.requires.few c.args.class c.in-Some.desc.now c.in-Some.ensures).methods

pub method_met-requires-clause-within : goal.method_met-requires-clause-within
method_met-requires-clause-within c =
    position_within (λ m. is_meant (meant c.args.sought.now) (view_of_method m)
    && has_flag 0x0001 m.flags && not (has_flag 0x0008 m.flags)) c.in-Some.desc.now.methods
    c.shared_place-place.result
    (shared_stands c.args.classes.now c.args.class c.args.sought.now c.in-Some.desc.now c.in-Some.ensures c.shared_place-place.result
    c.items.result.now c.items.ensures c.method_places-places.result.now (c.method_places-places.ensures c.requires.indexed)
    c.shared_place-place.ensures)

pub returns-in-Some-clause-met : goal.returns-in-Some-clause-met
returns-in-Some-clause-met c =
    shared_meets c.args.classes.now c.args.class c.in-Some.desc.now (meant c.args.sought.now)
    c.in-Some.ensures c.shared_place-place.result
    (shared_stands c.args.classes.now c.args.class c.args.sought.now c.in-Some.desc.now c.in-Some.ensures c.shared_place-place.result
    c.items.result.now c.items.ensures c.method_places-places.result.now (c.method_places-places.ensures c.requires.indexed)
    c.shared_place-place.ensures)
    c.method_met.result c.method_met.ensures

pub returns-in-Some-clause-there : goal.returns-in-Some-clause-there
returns-in-Some-clause-there c =
    method_small c.in-Some.desc.now c.args.class c.shared_place-place.result c.method_met.result
    c.method_met.ensures
    (position_within (λ m. is_meant (meant c.args.sought.now) (view_of_method m)
    && has_flag 0x0001 m.flags && not (has_flag 0x0008 m.flags)) c.in-Some.desc.now.methods
    c.shared_place-place.result
    (shared_stands c.args.classes.now c.args.class c.args.sought.now c.in-Some.desc.now c.in-Some.ensures c.shared_place-place.result
    c.items.result.now c.items.ensures c.method_places-places.result.now (c.method_places-places.ensures c.requires.indexed)
    c.shared_place-place.ensures))
    (length c.args.classes.now)
    (slice_get_within c.args.classes.now c.args.class c.in-Some.desc.now c.in-Some.ensures)

pub returns-in-None-clause-met : goal.returns-in-None-clause-met
returns-in-None-clause-met c =
    absent_met c.args.classes.now c.args.class (object_method_in (meant c.args.sought.now))
    c.in-None.ensures
