use Rattle.std.proofs.Common.{◌≡◌, ◌≤◌, IfSome, drop}
use Rattle.java_lexer.specs.Machine.{scan}
use Rattle.java_lexer.proofs.state.scan.Given as goal

-- the rest of the scan gives the answer, and no piece so far is longer than what was gone over
abbrev pub invariant-loop-index : goal.invariant-loop-index
invariant-loop-index l = record {
  answer : scan l.state l.index l.best (drop l.index l.units)
      ≡ scan l.fn.start l.fn.from l.fn.before (drop l.fn.from l.units);
  within : IfSome l.best (λ found. found.0 ≤ l.index);
}
