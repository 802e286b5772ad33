use Rattle.std.proofs.Common.{length, ◌-◌, ◌≡◌, ◌≤◌, take}
use Rattle.hdr_core.specs.Causes.{grown}
use Rattle.hdr_core.proofs.sink.write_whole.Given as goal

-- so far the sink was told the bytes before `at`, and no call failed
abbrev pub invariant-loop-at : goal.invariant-loop-at
invariant-loop-at g l =
    let told = g.S.Sink.told in
    let faults = g.S.Sink.faults in
    record {
      within : l.at ≤ length l.piece;
      told : told l.sink ≡ grown (told l.fn.sink) (take l.at l.piece);
      faults : faults l.sink ≡ faults l.fn.sink;
    }

abbrev pub decreases-loop-at : goal.decreases-loop-at
decreases-loop-at g l = length l.piece - l.at
