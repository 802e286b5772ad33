use Rattle.std.proofs.Common.{map, ap, ◌∙◌}
use Rattle.used_files.specs.Order.{in_order}
use Rattle.used_files.specs.Parts.{now_of}
use Rattle.used_files.specs.Paths.{tree}
use Rattle.used_files.proofs.Options.{if_some, from_some}
use Rattle.run_ends.specs.OutFiles.{file_seen, file_order}
use Rattle.used_files.specs.declared.kinds.FileKinds.TheVariants.{ClassesAndModules}
use Rattle.commands.specs.Outcome.{made, written}
use Rattle.commands.specs.Phases.{item_phases}
use Rattle.commands.proofs.Ends.{ends_made, ends_diagnosed}
use Rattle.commands.proofs.ijar.strip_inputs.Goals as goal

pub returns-in_ok-sort_files-in-Ok-clause-files : goal.returns-in_ok-sort_files-in-Ok-clause-files
returns-in_ok-sort_files-in-Ok-clause-files g c =
    let before = g.F.Files.held c.args.files.now in
    let roots = map now_of c.args.inputs.now in
    if_some before _ (λ files is.
    ends_made item_phases (λ items. made (written c.args.output.now items)) c.args.limits
    (tree ClassesAndModules files roots)
    (made (map file_seen c.in_ok-sort_files-in-Ok.field-0.items))
    (from_some before _ files c.in-Ok.ensures.fine is)
    (ap made (c.in_ok-sort_files-in-Ok.ensures
    ∙ ap (in_order file_order) (from_some before _ files c.in-Ok.ensures.files is))))

pub returns-in_ok-sort_diags-in-Err-Diagnosed-clause-stops
    : goal.returns-in_ok-sort_diags-in-Err-Diagnosed-clause-stops
returns-in_ok-sort_diags-in-Err-Diagnosed-clause-stops g c =
    let before = g.F.Files.held c.args.files.now in
    let roots = map now_of c.args.inputs.now in
    let told = rw c.in-Err-Diagnosed.field-0-is at c.in-Err-Diagnosed.ensures.stops in
    if_some before _ (λ files is.
    ends_diagnosed item_phases (λ items. made (written c.args.output.now items)) c.args.limits
    (tree ClassesAndModules files roots)
    c.in-Err-Diagnosed.list.items c.in_ok-sort_diags-in-Err-Diagnosed.field-0.items told.0
    (from_some before _ files told.1 is) c.in_ok-sort_diags-in-Err-Diagnosed.ensures.sole)
