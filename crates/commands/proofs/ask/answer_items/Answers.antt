use Rattle.std.proofs.Common.{◌≡◌, ◌<◌, ◌^◌, List, [], length, sym, ap, subst, ◌∙◌, arith}
use Rattle.std.proofs.lemmas.Result.{err_from_is_err_and}
use Rattle.class_desc.specs.declared.class.ClassDesc.{ClassDesc}
use Rattle.client_view.specs.Indexed.{HaveFewMembers}
use Rattle.client_view.specs.Numbers.{views, AreApart}
use Rattle.questions.specs.Asked.{ask_seen}
use Rattle.used_files.proofs.Options.{stops_weaker}
use Rattle.file_contents.specs.Contents.{classes}
use Rattle.file_contents.specs.Phases.{twice}
use Rattle.commands.specs.Answers.{answers}
use Rattle.commands.proofs.Asked.{no_more_classes, few_members, names_apart}
use Rattle.commands.proofs.ask.answer_items.Goals as goal

pub returns-in_err-stop_at-clause-stops : goal.returns-in_err-stop_at-clause-stops
returns-in_err-stop_at-clause-stops c =
    let p = err_from_is_err_and c.from_residual-in_err-stop_at.result
    c.from_residual-in_err-stop_at.ensures.1 in
    rw (p.1, p.2)
    (stops_weaker c.in_err-stop_at.field-0.0 _ _ _ _ (λ path none. none)
    (λ list told. (
      told.0,
      sym (c.in_ok-repeated.ensures ∙ ap twice c.deref.ensures.value) ∙ sym told.1,
    ))
    c.in_err-stop_at.ensures.some)

pub answer_over-requires-clause-few : goal.answer_over-requires-clause-few
answer_over-requires-clause-few c =
    let items = c.args.items.items in
    let long = ap (λ (list : List ClassDesc). length list) c.in_ok-classes.ensures in
    omega (arith, long, no_more_classes items, c.requires.few)

pub answer_over-requires-clause-members : goal.answer_over-requires-clause-members
answer_over-requires-clause-members c =
    subst HaveFewMembers (sym c.in_ok-classes.ensures)
    (few_members (classes c.args.items.items) c.requires.valid)

pub answer_over-requires-clause-apart : goal.answer_over-requires-clause-apart
answer_over-requires-clause-apart c =
    let items = c.args.items.items in
    let none : twice items ≡ [] =
    sym (c.in_ok-repeated.ensures ∙ ap twice c.deref.ensures.value)
    ∙ c.in_ok-stop_at.ensures.none in
    let P : List ClassDesc → Type 0 = λ list. AreApart (views list) in
    subst P (sym c.in_ok-classes.ensures) (names_apart items none)

pub returns-clause-lines : goal.returns-clause-lines
returns-clause-lines c =
    c.in_ok-lines.ensures
    ∙ ap (λ list. answers (ask_seen c.args.asked) (views list)) c.in_ok-classes.ensures

pub returns-clause-fine : goal.returns-clause-fine
returns-clause-fine c =
    sym (c.in_ok-repeated.ensures ∙ ap twice c.deref.ensures.value)
    ∙ c.in_ok-stop_at.ensures.none
