use Rattle.std.proofs.Common.{◌≡◌, map, [], ap, subst, ◌∙◌}
use Rattle.std.proofs.lemmas.Result.{IfOk-weaker, err_from_is_err_and}
use Rattle.used_files.specs.Parts.{now_of}
use Rattle.used_files.specs.Paths.{tree}
use Rattle.used_files.specs.Stops.{IsFilled}
use Rattle.used_files.proofs.Options.{if_some, from_some, if_err_weaker, stops_weaker}
use Rattle.commands.specs.Outcome.{files_of}
use Rattle.commands.specs.Phases.{item_phases}
use Rattle.file_contents.specs.Contents.{items_of}
use Rattle.file_contents.specs.Valid.{AreValid}
use Rattle.used_files.specs.declared.kinds.FileKinds.TheVariants.{ClassesAndModules}
use Rattle.commands.proofs.Phased.{first_files, phase_of_items, none_faults, if_ok_always}
use Rattle.commands.proofs.ijar.strip_roots.Goals as goal

pub returns-in_err-items-clause-stops : goal.returns-in_err-items-clause-stops
returns-in_err-items-clause-stops g c =
    let before = g.F.Files.held c.args.files.now in
    let roots = map now_of c.args.inputs.now in
    let p = err_from_is_err_and c.from_residual.result c.from_residual.ensures.1 in
    rw (p.1, p.2)
    (stops_weaker c.in_err-items.field-0.0 _ _ _ _ (λ path h. h)
    (λ list told. (
      told.0,
      if_some before _ (λ files is.
          first_files c.args.limits item_phases (tree ClassesAndModules files roots) list told.0
          (from_some before _ files told.1 is)),
    ))
    c.in_err-items.ensures.stops)

pub returns-clause-files : goal.returns-clause-files
returns-clause-files g c =
    let before = g.F.Files.held c.args.files.now in
    let roots = map now_of c.args.inputs.now in
    IfOk-weaker c.strip_items.result _ _
    (λ list e. if_some before _ (λ files is.
    e ∙ ap (files_of c.args.output.now) (from_some before _ files c.in_ok-items.ensures.items is)))
    c.strip_items.ensures.files

pub returns-clause-fine : goal.returns-clause-fine
returns-clause-fine g c =
    let before = g.F.Files.held c.args.files.now in
    let roots = map now_of c.args.inputs.now in
    IfOk-weaker c.strip_items.result _ _
    (λ list e. if_some before _ (λ files is.
    phase_of_items c.args.limits item_phases (tree ClassesAndModules files roots)
    c.in_ok-items.items.items []
    (from_some before _ files c.in_ok-items.ensures.fine is)
    (from_some before _ files c.in_ok-items.ensures.items is) e))
    c.strip_items.ensures.fine

pub returns-clause-stops : goal.returns-clause-stops
returns-clause-stops g c =
    let before = g.F.Files.held c.args.files.now in
    let roots = map now_of c.args.inputs.now in
    if_err_weaker c.strip_items.result _ _
    (λ stop s. stops_weaker stop _ _ _ _ (λ path none. absurd none)
    (λ list told. (
      told.0,
      if_some before _ (λ files is.
          phase_of_items c.args.limits item_phases (tree ClassesAndModules files roots)
          c.in_ok-items.items.items list
          (from_some before _ files c.in_ok-items.ensures.fine is)
          (from_some before _ files c.in_ok-items.ensures.items is) told.1),
    )) s)
    c.strip_items.ensures.stops

pub returns-clause-faults : goal.returns-clause-faults
returns-clause-faults g c =
    none_faults c.strip_items.result
    (λ list. IsFilled list × (item_phases c.in_ok-items.items.items ≡ list))
    (g.F.Files.faults c.args.files.now) (g.F.Files.faults c.read_items.new.files)
    c.strip_items.ensures.stops c.in_ok-items.ensures.faults

pub returns-clause-valid : goal.returns-clause-valid
returns-clause-valid g c =
    let before = g.F.Files.held c.args.files.now in
    let roots = map now_of c.args.inputs.now in
    if_ok_always c.strip_items.result
    (if_some before (λ held. AreValid (items_of (tree ClassesAndModules held roots))) (λ files is.
    subst AreValid (from_some before _ files c.in_ok-items.ensures.items is)
    c.in_ok-items.ensures.valid))
