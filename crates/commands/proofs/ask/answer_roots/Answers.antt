use Rattle.std.proofs.Common.{◌≡◌, ◌<◌, ◌^◌, [], ap, subst, ◌∙◌, arith}
use Rattle.std.proofs.lemmas.Result.{IfOk-weaker, err_from_is_err_and}
use Rattle.client_view.specs.Numbers.{views}
use Rattle.questions.specs.Asked.{ask_seen}
use Rattle.used_files.specs.Stops.{IsFilled}
use Rattle.used_files.proofs.Options.{if_some, from_some, if_err_weaker, stops_weaker}
use Rattle.file_contents.specs.Contents.{items_of, classes}
use Rattle.file_contents.specs.Phases.{twice}
use Rattle.file_contents.specs.Valid.{AreValid}
use Rattle.commands.specs.Answers.{answers, files_asked}
use Rattle.commands.proofs.Phased.{first_files, phase_of_items, none_faults, if_ok_always}
use Rattle.commands.proofs.ask.answer_roots.Goals as goal

pub returns-in_err-items-clause-stops : goal.returns-in_err-items-clause-stops
returns-in_err-items-clause-stops g c =
    let before = g.F.Files.held c.args.files.now in
    let asked = ask_seen c.args.asked in
    let p = err_from_is_err_and c.from_residual.result c.from_residual.ensures.1 in
    rw (p.1, p.2)
    (stops_weaker c.in_err-items.field-0.0 _ _ _ _ (λ path h. h)
    (λ list told. (
      told.0,
      if_some before _ (λ files is.
          first_files c.args.limits twice (files_asked asked files) list told.0
          (from_some before _ files told.1 is)),
    ))
    (rw c.deref.ensures.value at c.in_err-items.ensures.stops))

pub returns-clause-lines : goal.returns-clause-lines
returns-clause-lines g c =
    let before = g.F.Files.held c.args.files.now in
    let asked = ask_seen c.args.asked in
    IfOk-weaker c.answer_items.result _ _
    (λ lines e. if_some before _ (λ files is.
    e ∙ ap (λ items. answers asked (views (classes items)))
    (from_some before _ files (rw c.deref.ensures.value at c.in_ok-items.ensures.items) is)))
    c.answer_items.ensures.lines

pub returns-clause-fine : goal.returns-clause-fine
returns-clause-fine g c =
    let before = g.F.Files.held c.args.files.now in
    let asked = ask_seen c.args.asked in
    IfOk-weaker c.answer_items.result _ _
    (λ lines e. if_some before _ (λ files is.
    phase_of_items c.args.limits twice (files_asked asked files) c.in_ok-items.items.items []
    (from_some before _ files (rw c.deref.ensures.value at c.in_ok-items.ensures.fine) is)
    (from_some before _ files (rw c.deref.ensures.value at c.in_ok-items.ensures.items) is) e))
    c.answer_items.ensures.fine

pub returns-clause-stops : goal.returns-clause-stops
returns-clause-stops g c =
    let before = g.F.Files.held c.args.files.now in
    let asked = ask_seen c.args.asked in
    if_err_weaker c.answer_items.result _ _
    (λ stop s. stops_weaker stop _ _ _ _ (λ path none. absurd none)
    (λ list told. (
      told.0,
      if_some before _ (λ files is.
          phase_of_items c.args.limits twice (files_asked asked files) c.in_ok-items.items.items
          list
          (from_some before _ files (rw c.deref.ensures.value at c.in_ok-items.ensures.fine) is)
          (from_some before _ files (rw c.deref.ensures.value at c.in_ok-items.ensures.items) is)
          told.1),
    )) s)
    c.answer_items.ensures.stops

pub returns-clause-faults : goal.returns-clause-faults
returns-clause-faults g c =
    none_faults c.answer_items.result
    (λ list. IsFilled list × (twice c.in_ok-items.items.items ≡ list))
    (g.F.Files.faults c.args.files.now) (g.F.Files.faults c.read_items.new.files)
    c.answer_items.ensures.stops c.in_ok-items.ensures.faults

pub returns-clause-valid : goal.returns-clause-valid
returns-clause-valid g c =
    let before = g.F.Files.held c.args.files.now in
    let asked = ask_seen c.args.asked in
    if_ok_always c.answer_items.result
    (if_some before (λ held. AreValid (items_of (files_asked asked held))) (λ files is.
    subst AreValid
    (from_some before _ files (rw c.deref.ensures.value at c.in_ok-items.ensures.items) is)
    c.in_ok-items.ensures.valid))
