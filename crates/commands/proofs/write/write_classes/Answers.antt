use Rattle.std.proofs.Common.{◌<◌, ◌++◌, length, map, ap, sym, ◌∙◌, append_assoc}
use Rattle.std.proofs.Common.{arith}
use Rattle.std.specs.List.{flat_map}
use Rattle.commands.specs.Sources.{sourced_limits, sourced_file}
use Rattle.run_ends.specs.OutFiles.{file_seen}
use Rattle.file_contents.proofs.Reading.{front_empty, back_empty}
use Rattle.commands.proofs.Sourced.{whole_pairs, zip_step}
use Rattle.commands.proofs.write.write_classes.Goals as goal

pub loop-index-preserved : goal.loop-index-preserved
loop-index-preserved c =
    let sources = c.args.sources.now in
    let stripped = c.args.stripped.now in
    let i = c.loop-index.index in
    let source = c.index-sources-index.result in
    let class = c.index-stripped-index.result in
    let inside : i < length stripped = c.loop-index-test.true in
    let within : i < length sources = omega (arith, c.requires) in
    let limits = zip_step sourced_limits sources stripped i source class within inside
    c.index-sources-index.is c.index-stripped-index.is in
    let files = zip_step (sourced_file c.args.output.now) sources stripped i source class within
    inside c.index-sources-index.is c.index-stripped-index.is in
    let told = c.in_ok-write_class_of.ensures.limits in
    record {
      limits =
          told ∙ ap (λ list. list ++ sourced_limits (source, class)) c.loop-index.invariant.limits
          ∙ sym limits;
      files = λ none.
          c.in_ok-write_class_of.ensures.files (back_empty _ _ _ told none)
          ∙ ap (λ list. list ++ sourced_file c.args.output.now (source, class))
          (c.loop-index.invariant.files (front_empty _ _ _ told none))
          ∙ append_assoc (map file_seen c.args.files.items) _ _
          ∙ ap (λ list. map file_seen c.args.files.items ++ list) (sym files);
    }

pub returns-clause-limits : goal.returns-clause-limits
returns-clause-limits c =
    c.loop-index.invariant.limits
    ∙ ap (flat_map sourced_limits)
    (whole_pairs c.args.sources.now c.args.stripped.now c.loop-index.index
    c.loop-index-test.false)

pub returns-clause-files : goal.returns-clause-files
returns-clause-files c = λ none.
    c.loop-index.invariant.files none
    ∙ ap (λ pairs. map file_seen c.args.files.items
    ++ flat_map (sourced_file c.args.output.now) pairs)
    (whole_pairs c.args.sources.now c.args.stripped.now c.loop-index.index
    c.loop-index-test.false)
