use Rattle.std.proofs.Common.{sym, ◌∙◌}
use Rattle.java_lexer.proofs.LineLemmas.{pair_skipped, unit_kept}
use Rattle.java_lexer.proofs.block.push_normalized.Goals as goal

pub returns-then-is_pair_at : goal.returns-then-is_pair_at
returns-then-is_pair_at c =
    pair_skipped c.args.index c.args.units.now _ c.requires
    (sym c.is_pair_at.ensures ∙ c.if-is_pair_at.true)

pub returns : goal.returns
returns c =
    unit_kept c.args.index _ c.args.units.now _ _ c.requires
    (sym c.is_pair_at.ensures ∙ c.if-is_pair_at.false) c.without_return.ensures
    c.in_ok-push.ensures.items
