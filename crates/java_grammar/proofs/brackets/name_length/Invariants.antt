use Rattle.std.proofs.Common.{◌≡◌, ◌≤◌, ◌+◌, ◌-◌, length, drop}
use Rattle.java_grammar.specs.Parts.{parts}
use Rattle.java_grammar.specs.Extents.{name_from}
use Rattle.java_grammar.proofs.brackets.name_length.Given as goal

abbrev pub invariant-loop-at : goal.invariant-loop-at
invariant-loop-at l = record {
  counted : name_from (parts l.tokens) ≡ l.at + name_from (parts (drop l.at l.tokens));
  within : l.at ≤ length l.tokens;
}

abbrev pub decreases-loop-at : goal.decreases-loop-at
decreases-loop-at l = length l.tokens - l.at
