use Rattle.std.proofs.Common.{◌≡◌, ap, sym, ◌∙◌, subst}
use Rattle.std.specs.Slots.{slots_items}
use Rattle.answer_table.specs.declared.view.View.{View}
use Rattle.answer_table.specs.Closing.{IsClosed}
use Rattle.answer_table.proofs.Closed.{closed}
use Rattle.answer_table.proofs.answers.Answers.of.Goals as goal

pub invariant_of-result : goal.invariant_of-result
invariant_of-result g c =
    let listed = g.L.Listing.listed in
    let words = slots_items c.close_with-closed.result.words in
    let homes = slots_items c.close_with-closed.result.slots in
    let seat = c.into_inner.result in
    let ends = c.close_with-closed.ensures in
    let kept = ap (λ s. s.view) c.of-closer.ensures in
    let seen : seat.me.0 ≡ c.of-closer.result.value.view =
    ap (λ m. m.0) c.into_inner.ensures.1 ∙ sym kept in
    let is = closed listed words homes seat.id seat.me.0 ends.values.2 in (
      ends.values.0,
      ends.counts.1 ∙ c.requires.none,
      subst (λ (v : View). IsClosed listed words v) seen is,
    )
