use Rattle.std.proofs.Common.{◌≡◌, ap, sym, ◌∙◌}
use Rattle.answer_table.proofs.Steps.{joins}
use Rattle.answer_table.proofs.seat.Seat.join.Goals as goal

pub join_seat-requires : goal.join_seat-requires
join_seat-requires g c =
    let seat = c.self.inside.seat in
    let other = c.into_inner.result in
    let table = c.table.inside.table.shared.table_id in
    let mine = ap (λ s. s.table) c.self.view_is in
    let same : seat.table_id ≡ table = mine ∙ c.requires.table ∙ sym c.table.view_is in
    let theirs = c.into_inner.ensures in (
      same,
      theirs.0 ∙ c.requires.other ∙ sym c.table.view_is,
      ap (λ m. m.1) theirs.1,
      c.table.invariant.1,
      joins g.L.Listing.listed seat.id other.id seat.me.0 other.me.0,
    )
