use Rattle.std.proofs.Common.{sym, ◌∙◌, arith}
use Rattle.std.proofs.lemmas.List.{take_rest, length-drop}
use Rattle.java_grammar.specs.Counts.{unread_behind}
use Rattle.java_grammar.proofs.Counting.{default_further}
use Rattle.java_grammar.proofs.counts.behind_default.Goals as goal

pub loop-at-preserved : goal.loop-at-preserved
loop-at-preserved c =
    let h = c.loop-at.invariant in
    let rest = simp (take_rest, length-drop) at c.unread_behind-unread.ensures.within in
    record {
      same = default_further (unread_behind c.args.in_head) _ _ _ _ _ _ _ _ _ c.loop-at-test.true
          c.index-tokens-at.is c.of-part.ensures c.bracket_depth-depth.ensures.depth
          c.unread_behind-unread.ensures.counted
          (sym c.begins_default.ensures
          ∙ c.if-begins_default.false) c.has_group-behind_group.ensures h.same;
      within = omega (arith, rest);
      shallow = omega arith;
    }
