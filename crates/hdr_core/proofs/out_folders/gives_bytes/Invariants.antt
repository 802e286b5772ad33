use Rattle.std.proofs.Common.{length, take, ◌≤◌, ◌-◌}
use Rattle.std.specs.Io.KnownBytes.{Consumes}
use Rattle.hdr_core.proofs.out_folders.gives_bytes.Given as goal

-- so far the readings gave the bytes before `at`
abbrev pub invariant-loop-count : goal.invariant-loop-count
invariant-loop-count g l =
    let remaining = g.R.Read.remaining in
    record {
      within : l.at ≤ length l.bytes;
      given : Consumes (remaining l.fn.file) (remaining l.file) (take l.at l.bytes);
    }

abbrev pub decreases-loop-count : goal.decreases-loop-count
decreases-loop-count g l = length l.bytes - l.at
