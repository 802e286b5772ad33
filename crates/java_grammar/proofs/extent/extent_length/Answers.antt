use Rattle.std.proofs.Common.{◌≤◌, ◌+◌, length, arith}
use Rattle.std.proofs.lemmas.List.{take_rest, length-drop}
use Rattle.java_grammar.specs.Extents.{piece_at, extent_of}
use Rattle.java_grammar.proofs.Rows.{row_step, row_end, row_over}
use Rattle.java_grammar.proofs.extent.extent_length.Goals as goal

pub returns-then-more-eq0-clause-counted : goal.returns-then-more-eq0-clause-counted
unfolding extent_of
returns-then-more-eq0-clause-counted c =
    row_end piece_at _ _ _ c.piece_length-more.ensures.counted c.if-more-eq0.true
    c.loop-at.invariant.counted

pub loop-at-preserved : goal.loop-at-preserved
loop-at-preserved c =
    let h = c.loop-at.invariant in
    let rest = simp (take_rest, length-drop) at c.piece_length-more.ensures.within in
    let within : c.loop-at.at + c.piece_length-more.result ≤ length c.args.tokens.now = omega
    (arith, rest) in record {
      counted = row_step piece_at _ _ _ c.piece_length-more.ensures.counted
          (omega arith) within h.counted;
      within = within;
    }

pub returns-clause-counted : goal.returns-clause-counted
unfolding extent_of
returns-clause-counted c = row_over piece_at _ _ c.loop-at-test.false c.loop-at.invariant.counted
