use Rattle.std.proofs.Common.{◌∙◌}
use Rattle.std.proofs.lemmas.Result.{err_from_is_err_and}
use Rattle.used_files.proofs.Options.{if_some, from_some, stops_weaker}
use Rattle.used_files.proofs.Listings.{contains_root, roots_more}
use Rattle.used_files.proofs.used.list_roots.Goals as goal

pub loop-root-preserved : goal.loop-root-preserved
loop-root-preserved g c =
    let held = g.F.Files.held in
    let so_far = c.loop-root.invariant in
    record {
      used = if_some (held c.args.files.now) _ (λ files e.
          roots_more c.args.kinds files c.args.roots.now c.loop-root.root-index _
          c.loop-root.all.items c.push_places.new.all.items c.in_ok-paths.paths.items c.loop-root-test.true
          (from_some (held c.args.files.now) _ files so_far.used e)
          (from_some (held c.loop-root.files) _ files c.in_ok-paths.ensures.used (so_far.held ∙ e))
          c.in_ok-push_places.ensures);
      faults = c.in_ok-paths.ensures.faults ∙ so_far.faults;
      held = c.in_ok-paths.ensures.held ∙ so_far.held;
    }

pub returns-in_err-paths-clause-stops : goal.returns-in_err-paths-clause-stops
returns-in_err-paths-clause-stops g c =
    let p = err_from_is_err_and c.from_residual.result c.from_residual.ensures.1 in
    rw (p.1, p.2)
    (stops_weaker c.in_err-paths.field-0.0 _ _ _ _
    (λ path is. contains_root c.args.roots.now c.loop-root.root-index _ path
    c.loop-root-test.true is) (λ list none. none) c.in_err-paths.ensures.stops)
