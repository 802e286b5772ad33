use Rattle.std.proofs.Common.{ℕ, ◌-◌, Bool, not, length, drop, reverse, ◌∙◌, ap, rules, tests}
use Rattle.std.proofs.lemmas.Iterator.Adapters.{YieldsList-from_rev_slice}
use Rattle.std.proofs.lemmas.Iterator.Consumers.{count_from_yields_List}
use Rattle.std.proofs.lemmas.Iterator.Search.{YieldsList-from_take_while}
use Rattle.std.proofs.lemmas.List.{take_rest}
use Rattle.std.proofs.lemmas.List.Folds.{length-prefix_len}
use Rattle.java_lexer.specs.LineTerminators.{is_line_feed}
use Rattle.java_lexer.proofs.block.last_line.Goals as goal

abbrev is_of_line : ℕ → Bool
is_of_line c = not (is_line_feed c)

pub returns : goal.returns
returns c =
    let content = c.args.content.now in
    let units =
    count_from_yields_List c.take_while.result _ c.count-length.ensures.ran
    (YieldsList-from_take_while _ is_of_line (YieldsList-from_rev_slice content (cc))
    c.take_while.ensures.closure c.take_while.ensures.done (λ x b q k. search (rules, tests)))
    ∙ length-prefix_len is_of_line (reverse content) in
    simp take_rest (ap (λ (n : ℕ). drop (length content - n) content) units)
