use Rattle.std.proofs.Common.{◌∙◌, ap}
use Rattle.java_lexer.specs.Numbers.{small}
use Rattle.java_lexer.proofs.NumberLemmas.{unit_read, all_read, too_large, small_is, number_is}
use Rattle.java_lexer.proofs.integer.number.Goals as goal

pub loop-unit-preserved : goal.loop-unit-preserved
loop-unit-preserved c = record {
  read = rw c.in-Some.ensures.1 (unit_read _ _ _ c.args.units.now c.loop-unit-test.true)
      ∙ c.loop-unit.invariant.read;
  fits = rw c.in-Some.ensures.1 c.in-Some.ensures.0;
}

pub returns-in-None : goal.returns-in-None
returns-in-None c =
    too_large _ _ _ c.args.units.now c.requires c.loop-unit-test.true c.in-None.ensures
    ∙ ap small c.loop-unit.invariant.read ∙ number_is _ c.args.units.now

pub returns : goal.returns
returns c =
    small_is _ _ c.loop-unit.invariant.fits
    (all_read _ _ _ c.args.units.now c.loop-unit-test.false ∙ c.loop-unit.invariant.read)
    ∙ number_is _ c.args.units.now
