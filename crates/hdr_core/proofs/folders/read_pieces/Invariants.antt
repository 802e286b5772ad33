use Rattle.std.proofs.Common.{vec_len, length, ◌≤◌, ◌<◌, ◌-◌}
use Rattle.std.specs.Io.KnownBytes.{Consumes}
use Rattle.hdr_core.proofs.folders.read_pieces.Given as goal

-- so far the readings gave what is there
abbrev pub invariant-loop-into : goal.invariant-loop-into
invariant-loop-into g l =
    let remaining = g.R.Read.remaining in
    record {
      within : vec_len l.into ≤ 16777217;
      given : Consumes (remaining l.fn.file) (remaining l.file) l.into.items;
      room : 0 < length l.buffer;
    }

-- each reading but the last gives a byte
abbrev pub decreases-loop-into : goal.decreases-loop-into
decreases-loop-into g l = 16777217 - vec_len l.into
