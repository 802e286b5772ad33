use Rattle.std.proofs.Common.{◌≡◌, ◌+◌, ◌-◌, arith, ap, ◌∙◌, length}
use Rattle.std.specs.Prelude.{if◌then◌else◌}
use Rattle.java_grammar.specs.Parts.{part_of}
use Rattle.type_expr_parser.specs.Pairing.{is_unclosed, more_closing}
use Rattle.type_expr_parser.proofs.PairedMarks.{scan_next}
use Rattle.type_expr_parser.proofs.place.paired.Goals as goal

pub loop-seen-preserved : goal.loop-seen-preserved
loop-seen-preserved c =
    let at = (length c.args.tokens.now - 1) - c.loop-seen.seen in
    let place : at ≡ length c.args.tokens.now - (c.loop-seen.seen + 1) = omega arith in
    let part = c.of-part.ensures in
    let cut : c.cut_at-cut.result ≡ (if is_unclosed c.loop-seen.closing
    (part_of c.index-tokens-at.result) then at else c.loop-seen.cut) =
    c.cut_at-cut.ensures ∙ ap (λ b. if b then at else c.loop-seen.cut)
    (c.is_unclosed.ensures ∙ ap (is_unclosed c.loop-seen.closing) part) in
    let closing = c.closing_with-closing.ensures
    ∙ ap (λ p. more_closing p c.loop-seen.closing) part in
    let s = scan_next c.args.tokens.now at c.loop-seen.seen c.loop-seen.cut c.loop-seen.closing
    c.cut_at-cut.result c.closing_with-closing.result c.index-tokens-at.result place
    c.loop-seen-test.true c.index-tokens-at.is cut closing c.loop-seen.invariant.few
    c.loop-seen.invariant.within c.loop-seen.invariant.scanned in
    record {
      few = s.few;
      within = s.within;
      scanned = s.scanned;
    }
