use Rattle.std.proofs.Common.{◌≡◌, ◌≤◌, ◌+◌, drop}
use Rattle.std.specs.Prelude.{count_by}
use Rattle.java_grammar.specs.Modifiers.{is_access}
use Rattle.head_parser.proofs.modifier.access_words.Given as goal

abbrev pub invariant-loop-at : goal.invariant-loop-at
invariant-loop-at l = record {
  counted : count_by is_access l.items ≡ l.count + count_by is_access (drop l.at l.items);
  few : l.count ≤ l.at;
}
