use Rattle.std.proofs.Common.{◌≡◌, ◌++◌, [], map, take}
use Rattle.std.specs.List.{flat_map, zip}
use Rattle.commands.specs.Sources.{sourced_limits, sourced_file}
use Rattle.run_ends.specs.OutFiles.{file_seen}
use Rattle.commands.proofs.write.write_classes.Given as goal

abbrev pub invariant-loop-index : goal.invariant-loop-index
invariant-loop-index l =
    let done = take l.index (zip l.sources l.stripped) in
    record {
      limits : l.written.limits.items ≡ flat_map sourced_limits done;
      files : l.written.limits.items ≡ []
          → map file_seen l.written.files.items
          ≡ map file_seen l.fn.files.items ++ flat_map (sourced_file l.output) done;
    }
