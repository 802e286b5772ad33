use Rattle.std.proofs.Common.{◌≡◌, drop}
use Rattle.java_grammar.specs.Parts.{parts}
use Rattle.std.specs.List.{list_all}
use Rattle.java_grammar.specs.Counts.{is_plain_part}
use Rattle.java_grammar.proofs.counts.are_plain.Given as goal

abbrev pub invariant-loop-at : goal.invariant-loop-at
invariant-loop-at l = list_all is_plain_part (parts l.tokens)
    ≡ list_all is_plain_part (parts (drop l.at l.tokens))
