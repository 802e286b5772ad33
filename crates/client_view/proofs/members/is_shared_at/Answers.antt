use Rattle.std.proofs.Common.{ap, sym, ◌∙◌, false}
use Rattle.std.specs.Option.{option_map_or}
use Rattle.client_view.specs.Sought.{is_shared}
use Rattle.client_view.proofs.members.is_shared_at.Goals as goal

pub returns-in-Some : goal.returns-in-Some
returns-in-Some c =
    c.is_shared.ensures ∙ sym (ap (λ o. option_map_or is_shared o false) c.in-Some.ensures)

pub returns-in-None : goal.returns-in-None
returns-in-None c = sym (ap (λ o. option_map_or is_shared o false) c.in-None.ensures)
