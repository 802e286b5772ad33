use Rattle.std.proofs.Common.{◌≡◌, ◌∙◌, sym, ap, arith, length, true, false}
use Rattle.signature_scan.specs.declared.verdict.Verdict.TheVariants as verdict
use Rattle.signature_scan.proofs.Running.{whole_verdict}
use Rattle.signature_scan.proofs.Depths.{depth_rises}
use Rattle.signature_scan.proofs.Verdicts.{run_more, run_stops, at_end}
use Rattle.signature_scan.proofs.Functions.{tells}
use Rattle.signature_scan.proofs.scanner.scan.Goals as goal

pub returns-in-None : goal.returns-in-None
returns-in-None c =
    let t = tells c.args.place c.args.text.now (verdict.BadText c.loop-index.index)
    (λ i. omega (arith, c.type_inv.text i))
    (run_stops c.loop-index.state c.loop-index.index c.loop-index.too_deep c.args.text.now
    c.loop-index-test.true (sym c.in-None.is ∙ c.next.ensures)
    ∙ c.loop-index.invariant.verdict) in
    record { scanned = t.0; by_text = t.1 }

pub loop-index-preserved : goal.loop-index-preserved
loop-index-preserved c =
    let goes = sym c.in-Some.is ∙ c.next.ensures in
    let rise = depth_rises c.loop-index.state _ c.in-Some.next
    (let fits = c.type_inv.text c.loop-index.index in omega arith) (sym goes) in
    record {
      verdict =
          run_more c.loop-index.state c.in-Some.next c.loop-index.index c.loop-index.too_deep _
          c.args.text.now c.loop-index-test.true goes c.first_too_deep-too_deep.ensures
          ∙ c.loop-index.invariant.verdict;
      within = omega (arith, rise, c.loop-index.invariant.within);
    }

pub returns-then-not-is_whole : goal.returns-then-not-is_whole
returns-then-not-is_whole c =
    let at : length c.args.text.now ≡ c.loop-index.index = omega arith in
    let t = tells c.args.place c.args.text.now (verdict.BadText (length c.args.text.now))
    (λ i. omega (arith, c.type_inv.text i))
    (at_end c.args.place c.args.text.now (verdict.BadText (length c.args.text.now))
    c.loop-index.state c.loop-index.index c.loop-index.too_deep false
    c.loop-index.invariant.verdict c.loop-index-test.false
    (sym c.is_whole.ensures ∙ c.if-not-is_whole.true) (ap verdict.BadText at)) in
    record { scanned = t.0; by_text = t.1 }

pub returns-in-None-too_deep : goal.returns-in-None-too_deep
returns-in-None-too_deep c =
    let t = tells c.args.place c.args.text.now verdict.Fine (λ i. omega (arith, c.type_inv.text i))
    (at_end c.args.place c.args.text.now verdict.Fine c.loop-index.state c.loop-index.index
    c.loop-index.too_deep true
    c.loop-index.invariant.verdict c.loop-index-test.false
    (sym c.is_whole.ensures ∙ c.if-not-is_whole.false)
    (ap whole_verdict (sym c.in-None-too_deep.is))) in
    record { scanned = t.0; by_text = t.1 }

pub returns-in-Some-too_deep : goal.returns-in-Some-too_deep
returns-in-Some-too_deep c =
    let t = tells c.args.place c.args.text.now (verdict.TooDeep c.in-Some-too_deep.at)
    (λ i. omega (arith, c.type_inv.text i))
    (at_end c.args.place c.args.text.now (verdict.TooDeep c.in-Some-too_deep.at) c.loop-index.state
    c.loop-index.index c.loop-index.too_deep true
    c.loop-index.invariant.verdict c.loop-index-test.false
    (sym c.is_whole.ensures ∙ c.if-not-is_whole.false)
    (ap whole_verdict (sym c.in-Some-too_deep.is))) in
    record { scanned = t.0; by_text = t.1 }
