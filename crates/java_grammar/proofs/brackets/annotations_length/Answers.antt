use Rattle.std.proofs.Common.{◌≤◌, ◌+◌, length, arith}
use Rattle.std.proofs.lemmas.List.{take_rest, length-drop}
use Rattle.java_grammar.specs.Extents.{annotation_at, annotations_from}
use Rattle.java_grammar.proofs.Rows.{row_step, row_end, row_over}
use Rattle.java_grammar.proofs.brackets.annotations_length.Goals as goal

pub returns-then-more-eq0-clause-counted : goal.returns-then-more-eq0-clause-counted
unfolding annotations_from
returns-then-more-eq0-clause-counted c =
    row_end annotation_at _ _ _ c.whole_annotation_length-more.ensures.counted c.if-more-eq0.true
    c.loop-at.invariant.counted

pub loop-at-preserved : goal.loop-at-preserved
loop-at-preserved c =
    let h = c.loop-at.invariant in
    let rest = simp (take_rest, length-drop) at c.whole_annotation_length-more.ensures.within in
    let within : c.loop-at.at + c.whole_annotation_length-more.result ≤ length c.args.tokens.now =
    omega (arith, rest) in record {
      counted = row_step annotation_at _ _ _ c.whole_annotation_length-more.ensures.counted
          (omega arith) within h.counted;
      within = within;
    }

pub returns-clause-counted : goal.returns-clause-counted
unfolding annotations_from
returns-clause-counted c = row_over annotation_at _ _ c.loop-at-test.false
    c.loop-at.invariant.counted
