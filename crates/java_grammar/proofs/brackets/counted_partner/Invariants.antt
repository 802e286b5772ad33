use Rattle.std.proofs.Common.{◌≡◌, ◌≤◌, drop}
use Rattle.java_grammar.specs.Parts.{parts}
use Rattle.java_grammar.specs.Running.{partner_from}
use Rattle.java_grammar.proofs.Passing.{later}
use Rattle.java_grammar.proofs.brackets.counted_partner.Given as goal

abbrev pub invariant-loop-at : goal.invariant-loop-at
invariant-loop-at l = record {
  counted : partner_from 0 (parts l.tokens)
      ≡ later l.at (partner_from l.inside (parts (drop l.at l.tokens)));
  few : l.inside ≤ l.at;
}
