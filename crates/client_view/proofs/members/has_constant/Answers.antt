use Rattle.std.proofs.Common.{◌∙◌, ap}
use Rattle.std.specs.Prelude.{is_some}
use Rattle.std.specs.List.{list_any}
use Rattle.class_desc.specs.declared.attribute.Attr.{out-Attr}
use Rattle.class_views.specs.View.{constant_in}
use Rattle.client_view.proofs.Constants.{any_held}
use Rattle.client_view.proofs.members.has_constant.Goals as goal

pub returns : goal.returns
returns c =
    c.has_constant_value.ensures
    ∙ ap (list_any (λ a. is_some (constant_in (out-Attr a)))) c.items.ensures
    ∙ any_held c.args.field.now.attrs
