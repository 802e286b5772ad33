use Rattle.std.proofs.Common.{◌≡◌, take}
use Rattle.hdr_core.specs.Causes.{grown}
use Rattle.run_ends.specs.Tells.{all_lines}
use Rattle.run_ends.proofs.lines.tell_each.Given as goal

-- so far those that were gone over are told, and no call failed
abbrev pub invariant-loop-line : goal.invariant-loop-line
invariant-loop-line g l =
    let told = g.S.Sink.told in
    let faults = g.S.Sink.faults in
    record {
      told : told l.out ≡ grown (told l.fn.out) (all_lines (take l.line-index l.lines));
      faults : faults l.out ≡ faults l.fn.out;
    }
