use Rattle.std.specs.Prelude.{string_bytes}
use Rattle.std.specs.Vec.Iter.{into_iter_items}
use Rattle.used_files.specs.Paths.{is_used}
use Rattle.used_files.proofs.Lists.{filter_on}
use Rattle.used_files.proofs.used.chosen_paths.Goals as goal

pub loop-path-preserved : goal.loop-path-preserved
loop-path-preserved c =
    filter_on string_bytes (is_used c.args.kinds c.args.root.now) c.loop-path.paths.items
    c.push_used.new.paths.items _ c.in-Some.path (into_iter_items c.loop-path.path-iterator)
    (into_iter_items c.next.new.self) c.in-Some.ensures.steps.0
    c.in_ok-push_used.ensures c.loop-path.invariant
