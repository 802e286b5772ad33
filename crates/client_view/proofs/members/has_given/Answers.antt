use Rattle.std.proofs.Common.{◌∙◌, sym}
use Rattle.class_views.specs.Resolution.{interface_method_in}
use Rattle.client_view.specs.Sought.{meant}
use Rattle.client_view.proofs.Meeting.{absent_declares}
use Rattle.client_view.proofs.Standing.{given_has}
use Rattle.client_view.proofs.members.has_given.Goals as goal

pub returns-in-Some : goal.returns-in-Some
returns-in-Some c = λ indexed.
    c.is_some.ensures
    ∙ given_has c.args.classes.now c.args.class c.args.sought.now c.in-Some.desc.now
    c.in-Some.ensures c.interface_place.result c.method_places.result.now
    (c.method_places.ensures indexed) c.interface_place.ensures

pub returns-in-None : goal.returns-in-None
returns-in-None c = λ indexed.
    sym (absent_declares c.args.classes.now c.args.class
    (interface_method_in (meant c.args.sought.now)) c.in-None.ensures)
