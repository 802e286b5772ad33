use Rattle.std.proofs.Common.{◌<◌, ◌≤◌, ◌+◌, ◌-◌, sym, subst, rules, length}
use Rattle.java_grammar.specs.Marks.{token_marks}
use Rattle.type_expr_parser.proofs.Places.{Left, left_step, part_within}
use Rattle.type_expr_parser.proofs.place.place_behind.Goals as goal

pub returns-then-left-size-clause-angles : goal.returns-then-left-size-clause-angles
returns-then-left-size-clause-angles c =
    let size = c.marks_in-size.ensures.counted in
    let less : c.loop-at.left < c.marks_in-size.result = search rules in
    let h : c.loop-at.left < length (token_marks c.index-tokens-at.result) =
    subst (λ n. c.loop-at.left < n) size less in
    part_within c.args.tokens.now c.loop-at.at c.loop-at.left c.index-tokens-at.result
    c.loop-at-test.true c.index-tokens-at.is h

pub loop-at-preserved : goal.loop-at-preserved
loop-at-preserved c =
    let size = c.marks_in-size.ensures.counted in
    let more : c.marks_in-size.result ≤ c.loop-at.left = search rules in
    let h : length (token_marks c.index-tokens-at.result) ≤ c.loop-at.left =
    subst (λ n. n ≤ c.loop-at.left) size more in
    subst (λ n. Left c.args.tokens.now (c.loop-at.at + 1) (c.loop-at.left - n) c.args.count)
    (sym size) (left_step c.args.tokens.now c.loop-at.at c.loop-at.left c.args.count
    c.index-tokens-at.result c.loop-at-test.true c.index-tokens-at.is h c.loop-at.invariant)
