use Rattle.std.proofs.Common.{◌≡◌, ◌≤◌, ◌+◌, ◌-◌, length, drop}
use Rattle.java_grammar.specs.Parts.{parts}
use Rattle.java_grammar.specs.Extents.{angled_from}
use Rattle.java_grammar.proofs.Angles.{later_angled}
use Rattle.java_grammar.proofs.type_arguments.type_arguments.Given as goal

abbrev pub invariant-loop-at : goal.invariant-loop-at
invariant-loop-at l = record {
  counted : angled_from 1 0 (parts l.tokens)
      ≡ later_angled l.at (angled_from l.depth 0 (parts (drop l.at l.tokens)));
  within : l.at ≤ length l.tokens;
  few : l.depth ≤ l.at + 1;
}

abbrev pub decreases-loop-at : goal.decreases-loop-at
decreases-loop-at l = length l.tokens - l.at
