use Rattle.std.proofs.Common.{◌≡◌, ◌≤◌, ◌-◌, length, drop, map}
use Rattle.java_grammar.specs.Parts.{parts}
use Rattle.std.specs.List.{list_all}
use Rattle.java_grammar.specs.Counts.{places, unread_behind, is_short, runs_of}
use Rattle.java_grammar.proofs.Counting.{runs_fit}
use Rattle.java_grammar.proofs.counts.values_fit.Given as goal

abbrev pub invariant-loop-at : goal.invariant-loop-at
invariant-loop-at l = record {
  same : list_all is_short (runs_of
      (map (λ at. at.part) (places (unread_behind l.in_head) 0 0 (parts l.tokens))))
      ≡ runs_fit l.so_far l.may_prefix
      (runs_of (map (λ at. at.part)
      (places (unread_behind l.in_head) l.depth 0 (parts (drop l.at l.tokens)))));
  within : l.at ≤ length l.tokens;
  few : l.so_far ≤ 256;
  shallow : l.depth ≤ l.at;
}

abbrev pub decreases-loop-at : goal.decreases-loop-at
decreases-loop-at l = length l.tokens - l.at
