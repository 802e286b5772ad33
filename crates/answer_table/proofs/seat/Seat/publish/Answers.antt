use Rattle.std.proofs.Common.{◌≡◌, arith, ap, sym, ◌∙◌}
use Rattle.answer_table.proofs.Steps.{publishes}
use Rattle.answer_table.proofs.seat.Seat.publish.Goals as goal

pub compare_exchange-requires : goal.compare_exchange-requires
compare_exchange-requires g c =
    let seat = c.self.inside.seat in
    let table = c.table.inside.table.shared.table_id in
    let mine = ap (λ s. s.table) c.self.view_is in
    let same : seat.table_id ≡ table = mine ∙ c.requires.table ∙ sym c.table.view_is in
    let words = ap (λ t. t.words) same in
    let seen = ap (λ t. t.words) c.table.view_is in (
      same,
      omega (arith, seen, c.requires.word),
      publishes g.L.Listing.listed table.slots seat.id c.args.word seat.me.0 seat.me.1
          (omega (arith, seen, words, c.requires.word, c.self.invariant.1))
          c.args.answer
          c.requires.answer,
    )
