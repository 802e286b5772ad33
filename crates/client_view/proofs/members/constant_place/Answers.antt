use Rattle.std.proofs.Common.{ap, sym, ◌∙◌}
use Rattle.std.specs.Prelude.{slice_get, option_and_then}
use Rattle.member_index.specs.Index.{passes_at}
use Rattle.client_view.specs.Sought.{holds_constant}
use Rattle.client_view.proofs.Placed.{find_placed}
use Rattle.client_view.proofs.members.constant_place.Goals as goal

pub returns : goal.returns
returns c =
    c.place_of.ensures ∙ ap (option_and_then (slice_get c.args.places.now)) c.constant_among.ensures
    ∙ sym (find_placed (passes_at holds_constant c.args.fields.now) c.args.places.now)
