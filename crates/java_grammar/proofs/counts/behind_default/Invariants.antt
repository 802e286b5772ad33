use Rattle.std.proofs.Common.{◌≡◌, ◌≤◌, ◌-◌, length, drop, false}
use Rattle.java_grammar.specs.Parts.{parts}
use Rattle.java_grammar.specs.Counts.{places, unread_behind}
use Rattle.java_grammar.specs.Running.{behind_default}
use Rattle.java_grammar.proofs.counts.behind_default.Given as goal

abbrev pub invariant-loop-at : goal.invariant-loop-at
invariant-loop-at l = record {
  same : behind_default false (places (unread_behind l.in_head) 0 0 (parts l.tokens))
      ≡ behind_default l.behind_group
      (places (unread_behind l.in_head) l.depth 0 (parts (drop l.at l.tokens)));
  within : l.at ≤ length l.tokens;
  shallow : l.depth ≤ l.at;
}

abbrev pub decreases-loop-at : goal.decreases-loop-at
decreases-loop-at l = length l.tokens - l.at
