use Rattle.std.proofs.Common.{sym, ◌∙◌, ap, ◌≤◌, arith}
use Rattle.std.proofs.lemmas.List.{take_rest, length-drop}
use Rattle.std.specs.Prelude.{nat_le}
use Rattle.std.proofs.lemmas.Bool.{le-leb}
use Rattle.java_grammar.specs.Counts.{is_nested, bracket_depth, extent_behind}
use Rattle.java_grammar.proofs.Counting.{passes}
use Rattle.java_grammar.proofs.counts.brackets_nest.Goals as goal

pub loop-at-preserved : goal.loop-at-preserved
loop-at-preserved c =
    let h = c.loop-at.invariant in
    let rest = simp (take_rest, length-drop) at c.extent_behind-extent.ensures.within in
    let few : c.bracket_depth-depth.result ≤ 64 = omega arith in
    let deeper = c.bracket_depth-depth.ensures.depth in
    record {
      same = passes (λ at. is_nested (bracket_depth at.depth at.part))
          (extent_behind c.args.in_head) _ _ _ _ _ _ _ c.loop-at-test.true c.index-tokens-at.is
          c.of-part.ensures deeper c.extent_behind-extent.ensures.counted
          (ap (λ d. nat_le d 64) (sym deeper)
          ∙ le-leb c.bracket_depth-depth.result 64 few) h.same;
      within = omega (arith, rest);
      few = few;
    }
