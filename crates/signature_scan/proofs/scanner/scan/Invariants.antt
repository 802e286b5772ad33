use Rattle.std.proofs.Common.{◌≡◌, ◌≤◌, drop, None}
use Rattle.signature_scan.specs.declared.state.State.TheVariants as state
use Rattle.signature_scan.specs.Machine.{depth_of}
use Rattle.signature_scan.proofs.Running.{run}
use Rattle.signature_scan.proofs.scanner.scan.Given as goal

-- the rest of the text gives the verdict, and no more type arguments are open than bytes were read
abbrev pub invariant-loop-index : goal.invariant-loop-index
invariant-loop-index l = record {
  verdict : run l.state l.too_deep l.index (drop l.index l.text)
      ≡ run (state.Start l.fn.place) None 0 l.text;
  within : depth_of l.state ≤ l.index;
}
