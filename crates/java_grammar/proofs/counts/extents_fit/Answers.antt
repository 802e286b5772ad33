use Rattle.std.proofs.Common.{◌≡◌, refl, ◌∙◌, true, false, rules, arith, take}
use Rattle.std.proofs.lemmas.List.{take_rest, length-drop}
use Rattle.java_grammar.specs.Counts.{bracket_depth, extent_behind, extent_fits}
use Rattle.java_grammar.proofs.Counting.{passes, fails, fits_at, from_not, to_not}
use Rattle.java_grammar.proofs.counts.extents_fit.Goals as goal

pub returns-then-not-fits : goal.returns-then-not-fits
returns-then-not-fits c =
    let long : c.extent_fits-fits.result ≡ false =
    first_of (cc (c.if-not-fits.true), search (rules, to_not, c.if-not-fits.true)) in
    fails (λ at. extent_fits (take at.unread at.behind)) (extent_behind true) _ _ _
    (bracket_depth c.loop-at.depth c.of-part.result) _ _ _ c.loop-at-test.true
    c.index-tokens-at.is c.of-part.ensures refl c.extent_behind-extent.ensures.counted
    (fits_at c.args.tokens.now c.loop-at.at c.extent_behind-extent.result
    c.extent_fits-fits.result c.extent_fits-fits.ensures ∙ long) c.loop-at.invariant.same

pub loop-at-preserved : goal.loop-at-preserved
loop-at-preserved c =
    let h = c.loop-at.invariant in
    let rest = simp (take_rest, length-drop) at c.extent_behind-extent.ensures.within in
    let short : c.extent_fits-fits.result ≡ true =
    first_of (cc (c.if-not-fits.false), search (rules, from_not, c.if-not-fits.false)) in
    record {
      same = passes (λ at. extent_fits (take at.unread at.behind))
          (extent_behind true) _ _ _ _ _ _ _ c.loop-at-test.true c.index-tokens-at.is
          c.of-part.ensures c.bracket_depth-depth.ensures.depth
          c.extent_behind-extent.ensures.counted
          (fits_at c.args.tokens.now c.loop-at.at c.extent_behind-extent.result
          c.extent_fits-fits.result c.extent_fits-fits.ensures ∙ short) h.same;
      within = omega (arith, rest);
      few = omega arith;
    }
