use Rattle.std.proofs.Common.{◌≡◌, ◌≤◌, ◌-◌, length, drop, false}
use Rattle.java_grammar.specs.Parts.{parts}
use Rattle.std.specs.List.{list_all}
use Rattle.java_grammar.specs.Counts.{places, extent_behind, values_fit, elements_behind}
use Rattle.java_grammar.proofs.counts.annotations_fit.Given as goal

abbrev pub invariant-loop-at : goal.invariant-loop-at
invariant-loop-at l = record {
  same : list_all (λ at. values_fit false (elements_behind at.part at.behind))
      (places (extent_behind l.in_head) 0 0 (parts l.tokens))
      ≡ list_all (λ at. values_fit false (elements_behind at.part at.behind))
      (places (extent_behind l.in_head) l.depth 0 (parts (drop l.at l.tokens)));
  within : l.at ≤ length l.tokens;
  few : l.depth ≤ l.at;
}

abbrev pub decreases-loop-at : goal.decreases-loop-at
decreases-loop-at l = length l.tokens - l.at
