use Rattle.std.proofs.Common.{arith}
use Rattle.std.proofs.lemmas.List.{take_rest, length-drop}
use Rattle.java_grammar.proofs.Angles.{goes_on}
use Rattle.java_grammar.proofs.type_arguments.type_arguments.Goals as goal

pub loop-at-preserved : goal.loop-at-preserved
loop-at-preserved c =
    let h = c.loop-at.invariant in
    let w = c.in-GoesOn.ensures.within in
    let rest = simp (take_rest, length-drop) at w.0 in record {
      counted = goes_on _ _ _ _ _ _ _ _ c.loop-at-test.true c.index-tokens-at.is c.of-part.ensures
          c.angle_step.ensures.step c.in-GoesOn.is h.counted;
      within = omega (arith, rest);
      few = omega (arith, w.1);
    }
