use Rattle.std.proofs.Common.{ap, ◌∙◌}
use Rattle.client_view.specs.Numbers.{views}
use Rattle.questions.specs.Asked.{ask_seen}
use Rattle.used_files.proofs.Options.{if_some, from_some}
use Rattle.file_contents.specs.Contents.{classes}
use Rattle.file_contents.specs.Phases.{twice}
use Rattle.commands.specs.Answers.{answers, files_asked}
use Rattle.commands.specs.Outcome.{told}
use Rattle.commands.proofs.Ends.{ends_made, ends_diagnosed}
use Rattle.commands.proofs.ask.answer_questions.Goals as goal

pub returns-in-Ok-clause-lines : goal.returns-in-Ok-clause-lines
returns-in-Ok-clause-lines g c =
    let before = g.F.Files.held c.args.files.now in
    let asked = ask_seen c.args.asked in
    if_some before _ (λ files is.
    ends_made twice (λ items. told (answers asked (views (classes items)))) c.args.limits
    (files_asked asked files) (told c.in-Ok.lines.items)
    (from_some before _ files c.in-Ok.ensures.fine is)
    (ap told (from_some before _ files c.in-Ok.ensures.lines is)))

pub returns-in_ok-sort_diags-in-Err-Diagnosed-clause-stops
    : goal.returns-in_ok-sort_diags-in-Err-Diagnosed-clause-stops
returns-in_ok-sort_diags-in-Err-Diagnosed-clause-stops g c =
    let before = g.F.Files.held c.args.files.now in
    let asked = ask_seen c.args.asked in
    let told_first = rw c.in-Err-Diagnosed.field-0-is at c.in-Err-Diagnosed.ensures.stops in
    if_some before _ (λ files is.
    ends_diagnosed twice (λ items. told (answers asked (views (classes items)))) c.args.limits
    (files_asked asked files) c.in-Err-Diagnosed.list.items
    c.in_ok-sort_diags-in-Err-Diagnosed.field-0.items told_first.0
    (from_some before _ files told_first.1 is) c.in_ok-sort_diags-in-Err-Diagnosed.ensures.sole)
