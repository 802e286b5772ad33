use Rattle.std.proofs.Common.{◌≡◌, ◌≤◌, ◌-◌, length, drop, Some, None}
use Rattle.java_lexer.specs.declared.kind.Kind.TheVariants as kind
use Rattle.java_lexer.specs.declared.state.State.TheVariants as state
use Rattle.java_lexer.specs.Machine.{scan}
use Rattle.java_lexer.proofs.state.ascii_word.Given as goal

-- the word so far, and the scan of what is left
abbrev pub invariant-loop-end : goal.invariant-loop-end
invariant-loop-end l = record {
  answer : scan state.Word l.end (Some (l.end, kind.Word)) (drop l.end l.units)
      ≡ scan state.Start 0 None l.units;
  within : l.end ≤ length l.units;
}

abbrev pub decreases-loop-end : goal.decreases-loop-end
decreases-loop-end l = length l.units - l.end
