use Rattle.std.proofs.Common.{◌∙◌}
use Rattle.client_view.proofs.Standing.{field_has}
use Rattle.client_view.proofs.members.has_field.Goals as goal

pub returns : goal.returns
returns c = λ indexed.
    c.is_some.ensures
    ∙ field_has c.args.classes.now c.args.class c.args.sought.now c.field_place.result
    (c.field_place.ensures indexed)
