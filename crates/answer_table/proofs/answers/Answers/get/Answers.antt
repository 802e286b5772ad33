use Rattle.std.proofs.Common.{get_or, ap, ◌∙◌}
use Rattle.std.specs.Prelude.{None}
use Rattle.std.specs.Slots.{slots_items}
use Rattle.answer_table.specs.Views.{knows}
use Rattle.answer_table.proofs.Closed.{holds_listed, known_is_full, none_held, some_held}
use Rattle.answer_table.proofs.answers.Answers.get.Goals as goal

pub returns-then-held-eq0-clause-holds : goal.returns-then-held-eq0-clause-holds
returns-then-held-eq0-clause-holds g c =
    let words = slots_items c.self.inside.closed.words in
    let held = c.word-held in
    none_held words c.args.word held.result held.ensures c.if-held-eq0.true
    ∙ ap (λ a. get_or a.answers c.args.word None) c.self.view_is

pub returns-then-held-eq0-clause-known : goal.returns-then-held-eq0-clause-known
returns-then-held-eq0-clause-known g c known =
    let words = slots_items c.self.inside.closed.words in
    let held = c.word-held in
    let view = c.self.inside.closer.value.view in
    let same = ap (λ a. knows a.closer c.args.word) c.self.view_is in
    let is = c.self.invariant.2 in
    let listed = g.L.Listing.listed in
    let full = known_is_full words c.args.word held.result held.ensures listed view is in
    absurd (full (same ∙ known) c.if-held-eq0.true)

pub returns-else-held-eq0-clause-holds : goal.returns-else-held-eq0-clause-holds
returns-else-held-eq0-clause-holds g c =
    let words = slots_items c.self.inside.closed.words in
    let held = c.word-held in
    some_held words c.args.word held.result held.ensures c.if-held-eq0.false
    ∙ ap (λ a. get_or a.answers c.args.word None) c.self.view_is

pub returns-else-held-eq0-clause-listed : goal.returns-else-held-eq0-clause-listed
returns-else-held-eq0-clause-listed g c =
    let words = slots_items c.self.inside.closed.words in
    let held = c.word-held in
    let view = c.self.inside.closer.value.view in
    let is = c.self.invariant.2 in
    let listed = g.L.Listing.listed in
    holds_listed words c.args.word held.result held.ensures listed view is c.if-held-eq0.false
