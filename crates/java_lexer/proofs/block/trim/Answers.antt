use Rattle.std.proofs.Common.{ℕ, ◌-◌, length, take, reverse, ◌∙◌, ap, rules, tests}
use Rattle.std.proofs.lemmas.Iterator.Adapters.{YieldsList-from_rev_slice}
use Rattle.std.proofs.lemmas.Iterator.Consumers.{count_from_yields_List}
use Rattle.std.proofs.lemmas.Iterator.Search.{YieldsList-from_take_while}
use Rattle.std.proofs.lemmas.List.Folds.{length-prefix_len}
use Rattle.java_text.specs.Letters.{is_white}
use Rattle.java_lexer.proofs.block.trim.Goals as goal

pub returns : goal.returns
returns c =
    let line = c.args.line.now in
    let white =
    count_from_yields_List c.take_while.result _ c.count-white.ensures.ran
    (YieldsList-from_take_while _ is_white (YieldsList-from_rev_slice line (cc))
    c.take_while.ensures.closure c.take_while.ensures.done (λ x b q k. search (rules, tests)))
    ∙ length-prefix_len is_white (reverse line) in
    ap (λ (n : ℕ). take (length line - n) line) white
