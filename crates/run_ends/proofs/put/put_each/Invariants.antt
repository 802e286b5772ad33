use Rattle.std.proofs.Common.{◌≡◌, map, take}
use Rattle.run_ends.specs.OutFiles.{file_seen}
use Rattle.run_ends.specs.Tells.{with_files}
use Rattle.run_ends.proofs.put.put_each.Given as goal

-- so far those that were gone over are written, and no call failed
abbrev pub invariant-loop-file : goal.invariant-loop-file
invariant-loop-file g l =
    let written = g.O.Outs.written in
    let faults = g.O.Outs.faults in
    record {
      written : written l.outs
          ≡ with_files (written l.fn.outs) (map file_seen (take l.file-index l.files));
      faults : faults l.outs ≡ faults l.fn.outs;
    }
