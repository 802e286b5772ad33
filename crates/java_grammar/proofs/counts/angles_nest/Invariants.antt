use Rattle.std.proofs.Common.{◌≡◌, ◌≤◌, drop}
use Rattle.java_grammar.specs.Parts.{parts}
use Rattle.std.specs.List.{list_all, scan}
use Rattle.java_grammar.specs.Counts.{angle_depth, is_nested}
use Rattle.java_grammar.proofs.counts.angles_nest.Given as goal

abbrev pub invariant-loop-at : goal.invariant-loop-at
invariant-loop-at l = record {
  same : list_all is_nested (scan angle_depth angle_depth 0 (parts l.tokens))
      ≡ list_all is_nested (scan angle_depth angle_depth l.angles (parts (drop l.at l.tokens)));
  few : l.angles ≤ 64;
}
