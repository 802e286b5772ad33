use Rattle.std.proofs.Common.{◌≡◌, ◌≤◌, drop, true}
use Rattle.java_grammar.specs.Parts.{parts}
use Rattle.java_grammar.proofs.Counting.{run_counts}
use Rattle.java_grammar.proofs.counts.count_of.Given as goal

abbrev pub invariant-loop-at : goal.invariant-loop-at
invariant-loop-at l = record {
  same : run_counts 0 true (parts l.tokens)
      ≡ run_counts l.so_far l.may_prefix (parts (drop l.at l.tokens));
  few : l.so_far ≤ l.at;
}
