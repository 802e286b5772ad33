use Rattle.std.proofs.Common.{rules, arith, ◌∙◌}
use Rattle.std.proofs.lemmas.List.{take_rest}
use Rattle.hdr_core.proofs.Grown.{grown_step, grew_take, on_err}
use Rattle.hdr_core.proofs.sink.write_whole.Goals as goal

pub returns-in_err-at-clause-err : goal.returns-in_err-at-clause-err
returns-in_err-at-clause-err g c =
    on_err _ (grew_take _ _ c.loop-at.at _
    (c.in_err-at.ensures.refused ∙ c.loop-at.invariant.told))

pub loop-at-preserved : goal.loop-at-preserved
loop-at-preserved g c = record {
  within = grind arith;
  told =
      grown_step _ _ _ c.loop-at.at _ _ c.loop-at.invariant.told
      (simp take_rest at c.in_ok-at.ensures.bytes);
  faults = search rules;
}
