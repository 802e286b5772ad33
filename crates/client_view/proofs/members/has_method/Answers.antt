use Rattle.std.proofs.Common.{◌∙◌}
use Rattle.client_view.proofs.Standing.{method_has}
use Rattle.client_view.proofs.members.has_method.Goals as goal

pub returns : goal.returns
returns c = λ indexed.
    c.is_some.ensures
    ∙ method_has c.args.classes.now c.args.class c.args.sought.now c.method_place.result
    (c.method_place.ensures indexed)
