use Rattle.std.proofs.Common.{ℕ, not, min, map, ap, ◌∙◌, rules, tests}
use Rattle.std.specs.List.{fold}
use Rattle.std.proofs.lemmas.Iterator.{YieldsList-from_map}
use Rattle.std.proofs.lemmas.Iterator.Consumers.{YieldsList-at, YieldsList-from_filter}
use Rattle.std.proofs.lemmas.Iterator.Consumers.{fold_from_yields_List}
use Rattle.std.proofs.lemmas.Iterator.Splits.{YieldsList-from_slice_split}
use Rattle.java_lexer.specs.LineTerminators.{is_line_feed}
use Rattle.java_lexer.specs.Blocks.{margin, indentation, is_blank, lines_not_blank}
use Rattle.java_lexer.proofs.block.margin.Goals as goal

pub returns : goal.returns
unfolding margin
returns c =
    fold_from_yields_List _ min _ _ c.fold.ensures.ran
    (YieldsList-from_map _ indentation
    (YieldsList-at c.map.ensures.source
    (YieldsList-from_filter _ (λ line. not (is_blank line))
    (YieldsList-at c.filter.ensures.source
    (YieldsList-from_slice_split _ is_line_feed c.args.content.now c.split.ensures.rest
    c.split.ensures.done c.split.ensures.closure (λ x r q k. search (rules, tests))))
    c.filter.ensures.closure (λ x r q k. search (rules, tests))))
    c.map.ensures.closure (λ x r q k. search (rules, tests)))
    (λ a x b q k. search (rules, tests))
    ∙ ap (λ (n : ℕ). fold min n (map indentation (lines_not_blank c.args.content.now)))
    (c.indentation.ensures ∙ ap indentation c.last_line.ensures)
