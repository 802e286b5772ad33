use Rattle.std.proofs.Common.{◌∙◌, sym, arith}
use Rattle.java_lexer.proofs.CutLemmas.{ends_moved, return_moved, ends_none, return_none}
use Rattle.java_lexer.proofs.cut.Place.behind.Goals as goal

pub loop-unit-preserved : goal.loop-unit-preserved
loop-unit-preserved c = record {
  ends =
      ends_moved _ _ _ _ _ c.args.units.now c.loop-unit-test.true c.step-place.ensures.ends
      c.step-place.ensures.last ∙ c.loop-unit.invariant.ends;
  last = return_moved _ _ _ c.args.units.now c.loop-unit-test.true c.step-place.ensures.last
      ∙ c.loop-unit.invariant.last;
  bound = omega (arith, c.step-place.ensures.bound, c.loop-unit.invariant.bound);
}

pub returns-clause-ends : goal.returns-clause-ends
returns-clause-ends c =
    omega (
      arith,
      ends_none c.loop-unit.place.after_return c.loop-unit.unit-index c.args.units.now
          c.loop-unit-test.false,
      c.loop-unit.invariant.ends,
    )

pub returns-clause-last : goal.returns-clause-last
returns-clause-last c = sym (return_none _ _ c.args.units.now c.loop-unit-test.false)
    ∙ c.loop-unit.invariant.last
