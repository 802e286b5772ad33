use Rattle.std.proofs.Common.{length, take, ◌-◌, ◌≤◌}
use Rattle.std.specs.Io.KnownBytes.{Appends}
use Rattle.hdr_core.proofs.out_folders.write_bytes.Given as goal

-- so far the file took the bytes before `at`
abbrev pub invariant-loop-at : goal.invariant-loop-at
invariant-loop-at g l =
    let contents = g.W.Write.contents in
    record {
      within : l.at ≤ length l.bytes;
      taken : Appends (contents l.fn.file) (contents l.file) (take l.at l.bytes);
    }

abbrev pub decreases-loop-at : goal.decreases-loop-at
decreases-loop-at g l = length l.bytes - l.at
