use Rattle.std.proofs.Common.{length}
use Rattle.std.proofs.lemmas.Option.{slice_get_within}
use Rattle.class_views.specs.Resolution.{interface_method_in}
use Rattle.client_view.specs.Sought.{meant}
use Rattle.client_view.proofs.Givens.{given_meets, given_within}
use Rattle.client_view.proofs.Meeting.{absent_met}
use Rattle.client_view.proofs.Methods.{method_small}
use Rattle.client_view.proofs.Standing.{given_stands}
use Rattle.client_view.proofs.members.given_at.Goals as goal

pub method_met-requires-clause-few : goal.method_met-requires-clause-few
method_met-requires-clause-few c =
    (c.requires.few c.args.class c.in-Some.desc.now c.in-Some.ensures).methods

pub method_met-requires-clause-within : goal.method_met-requires-clause-within
method_met-requires-clause-within c =
    given_within c.args.classes.now c.args.class c.in-Some.desc.now (meant c.args.sought.now)
    c.in-Some.ensures c.interface_place-place.result
    (given_stands c.args.classes.now c.args.class c.args.sought.now c.in-Some.desc.now c.in-Some.ensures c.interface_place-place.result
    c.method_places.result.now (c.method_places.ensures c.requires.indexed) c.interface_place-place.ensures)

pub returns-in-Some-clause-met : goal.returns-in-Some-clause-met
returns-in-Some-clause-met c =
    given_meets c.args.classes.now c.args.class c.in-Some.desc.now (meant c.args.sought.now)
    c.in-Some.ensures c.interface_place-place.result
    (given_stands c.args.classes.now c.args.class c.args.sought.now c.in-Some.desc.now c.in-Some.ensures c.interface_place-place.result
    c.method_places.result.now (c.method_places.ensures c.requires.indexed) c.interface_place-place.ensures)
    c.method_met.result c.method_met.ensures

pub returns-in-Some-clause-there : goal.returns-in-Some-clause-there
returns-in-Some-clause-there c =
    method_small c.in-Some.desc.now c.args.class c.interface_place-place.result
    c.method_met.result c.method_met.ensures
    (given_within c.args.classes.now c.args.class c.in-Some.desc.now (meant c.args.sought.now)
    c.in-Some.ensures c.interface_place-place.result
    (given_stands c.args.classes.now c.args.class c.args.sought.now c.in-Some.desc.now c.in-Some.ensures c.interface_place-place.result
    c.method_places.result.now (c.method_places.ensures c.requires.indexed) c.interface_place-place.ensures))
    (length c.args.classes.now)
    (slice_get_within c.args.classes.now c.args.class c.in-Some.desc.now c.in-Some.ensures)

pub returns-in-None-clause-met : goal.returns-in-None-clause-met
returns-in-None-clause-met c =
    absent_met c.args.classes.now c.args.class (interface_method_in (meant c.args.sought.now))
    c.in-None.ensures
