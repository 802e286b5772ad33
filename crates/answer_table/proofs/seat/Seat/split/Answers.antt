use Rattle.std.proofs.Common.{◌≡◌, ap, sym, ◌∙◌}
use Rattle.answer_table.proofs.Steps.{splits}
use Rattle.answer_table.proofs.seat.Seat.split.Goals as goal

pub split_seat-requires : goal.split_seat-requires
split_seat-requires g c =
    let seat = c.self.inside.seat in
    let table = c.table.inside.table.shared.table_id in
    let mine = ap (λ s. s.table) c.self.view_is in
    let same : seat.table_id ≡ table = mine ∙ c.requires.table ∙ sym c.table.view_is in
    (same, c.table.invariant.1, splits g.L.Listing.listed seat.id seat.me.0)
