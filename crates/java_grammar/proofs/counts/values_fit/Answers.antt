use Rattle.std.proofs.Common.{refl, arith}
use Rattle.std.proofs.lemmas.List.{take_rest, length-drop}
use Rattle.java_grammar.specs.Counts.{bracket_depth, unread_behind, values_fit}
use Rattle.java_grammar.proofs.Counting.{run_at, run_further, run_stops}
use Rattle.java_grammar.proofs.counts.values_fit.Goals as goal

pub returns-then-so_far-gt-MOST_COUNTED : goal.returns-then-so_far-gt-MOST_COUNTED
unfolding values_fit
returns-then-so_far-gt-MOST_COUNTED c =
    run_stops c.counted_in_run-so_far.result _ _ _ _ c.counted_in_run-so_far.ensures.counted
    (omega arith)
    (run_at (unread_behind c.args.in_head) _ _ _
    (bracket_depth c.loop-at.depth c.of-part.result) _ _ _ _ _ c.loop-at-test.true
    c.index-tokens-at.is c.of-part.ensures refl c.unread_behind-unread.ensures.counted
    c.loop-at.invariant.few c.loop-at.invariant.same)

pub loop-at-preserved : goal.loop-at-preserved
loop-at-preserved c =
    let h = c.loop-at.invariant in
    let rest = simp (take_rest, length-drop) at c.unread_behind-unread.ensures.within in
    record {
      same = run_further _ _ _ _ _ _ _ c.counted_in_run-so_far.ensures.counted
          c.begins_prefix-may_prefix.ensures
          (run_at (unread_behind c.args.in_head) _ _ _ _ _ _ _ _ _ c.loop-at-test.true
          c.index-tokens-at.is c.of-part.ensures c.bracket_depth-depth.ensures.depth
          c.unread_behind-unread.ensures.counted h.few h.same);
      within = omega (arith, rest);
      few = omega arith;
      shallow = omega arith;
    }
