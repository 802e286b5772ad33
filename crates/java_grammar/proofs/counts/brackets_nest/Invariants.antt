use Rattle.std.proofs.Common.{◌≡◌, ◌≤◌, ◌-◌, length, drop}
use Rattle.java_grammar.specs.Parts.{parts}
use Rattle.std.specs.List.{list_all}
use Rattle.java_grammar.specs.Counts.{is_nested, bracket_depth, places, extent_behind}
use Rattle.java_grammar.proofs.counts.brackets_nest.Given as goal

abbrev pub invariant-loop-at : goal.invariant-loop-at
invariant-loop-at l = record {
  same : list_all (λ at. is_nested (bracket_depth at.depth at.part))
      (places (extent_behind l.in_head) 0 0 (parts l.tokens))
      ≡ list_all (λ at. is_nested (bracket_depth at.depth at.part))
      (places (extent_behind l.in_head) l.depth 0 (parts (drop l.at l.tokens)));
  within : l.at ≤ length l.tokens;
  few : l.depth ≤ 64;
}

abbrev pub decreases-loop-at : goal.decreases-loop-at
decreases-loop-at l = length l.tokens - l.at
