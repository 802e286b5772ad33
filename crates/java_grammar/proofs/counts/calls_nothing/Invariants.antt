use Rattle.std.proofs.Common.{◌≡◌, drop, false}
use Rattle.java_grammar.specs.Parts.{parts}
use Rattle.java_grammar.specs.Counts.{calls_nothing}
use Rattle.java_grammar.proofs.counts.calls_nothing.Given as goal

abbrev pub invariant-loop-at : goal.invariant-loop-at
invariant-loop-at l = calls_nothing false (parts l.tokens)
    ≡ calls_nothing l.behind_word (parts (drop l.at l.tokens))
