use Rattle.std.proofs.Common.{◌∙◌, sym, ap, arith, ◌+◌}
use Rattle.java_lexer.specs.Machine.{better}
use Rattle.java_lexer.proofs.Longest.{scan_more, scan_stops, scan_ends, within_more}
use Rattle.java_lexer.proofs.state.scan.Goals as goal
use Rattle.java_lexer.proofs.state.scan.Goals.{in-Some-kind, in-None-kind}

pub returns-in-None-clause-value : goal.returns-in-None-clause-value
returns-in-None-clause-value c =
    scan_stops _ _ _ c.args.units.now c.loop-index-test.true (sym c.in-None.ensures)
    ∙ c.loop-index.invariant.answer

pub returns-clause-value : goal.returns-clause-value
returns-clause-value c = scan_ends _ _ _ c.args.units.now c.loop-index-test.false
    ∙ c.loop-index.invariant.answer

pub loop-index-preserved : goal.loop-index-preserved
loop-index-preserved c = elim c.match-kind.branch [
  | in-Some-kind w ↦ record {
    answer = scan_more _ _ _ _ _ c.args.units.now c.loop-index-test.true (sym c.in-Some.ensures)
        (w.best-is
        ∙ ap (λ k. better (c.loop-index.index + 1) k c.loop-index.best) w.in-Some-kind.ensures)
        ∙ c.loop-index.invariant.answer;
    within = rw w.best-is (omega arith);
  }
  | in-None-kind w ↦ record {
    answer = scan_more _ _ _ _ _ c.args.units.now c.loop-index-test.true (sym c.in-Some.ensures)
        (w.best-is
        ∙ ap (λ k. better (c.loop-index.index + 1) k c.loop-index.best) w.in-None-kind.ensures)
        ∙ c.loop-index.invariant.answer;
    within =
        rw w.best-is
        (within_more c.loop-index.best c.loop-index.index c.loop-index.invariant.within);
  }
]
