use Rattle.std.proofs.Common.{◌≡◌, take}
use Rattle.hdr_core.specs.Causes.{grown}
use Rattle.hdr_core.specs.Diagnostics.{printed}
use Rattle.hdr_core.proofs.diagnostics.print_diags.Given as goal

-- so far the sink was told the lines of those that were gone over, and no call failed
abbrev pub invariant-loop-diag : goal.invariant-loop-diag
invariant-loop-diag g l =
    let told = g.S.Sink.told in
    let faults = g.S.Sink.faults in
    record {
      told : told l.sink ≡ grown (told l.fn.sink) (printed (take l.diag-index l.list));
      faults : faults l.sink ≡ faults l.fn.sink;
    }
