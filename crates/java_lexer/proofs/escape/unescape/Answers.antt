use Rattle.std.proofs.Common.{◌∙◌, ◌++◌, ◌+◌, sym, ap, drop}
use Rattle.std.specs.List.{concat}
use Rattle.std.proofs.lemmas.List.{take_rest, drop_more}
use Rattle.java_lexer.specs.Escapes.{items_of}
use Rattle.java_lexer.proofs.EscapeLemmas.{pushed, further, ended}
use Rattle.java_lexer.proofs.escape.unescape.Goals as goal

pub loop-at-preserved : goal.loop-at-preserved
loop-at-preserved c =
    let at = c.loop-at.at in
    let units = c.args.units.now in
    let item = simp take_rest at c.in_ok-taken.ensures.item in
    rw (further at c.in_ok-taken.taken units) (
    pushed _ (drop (at + 1) units) _ c.loop-at.plain.items _ item.0 item.1
    ∙ ap (λ t. c.loop-at.plain.items ++ concat (items_of t))
    (sym (drop_more units at 0 c.loop-at-test.true))
    ∙ c.loop-at.invariant)

pub returns : goal.returns
returns c = ended c.loop-at.at c.args.units.now _ c.loop-at-test.false c.loop-at.invariant
