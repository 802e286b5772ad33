use Rattle.std.proofs.Common.{◌≤◌, ◌+◌, length, arith}
use Rattle.std.proofs.lemmas.List.{take_rest, length-drop}
use Rattle.java_grammar.specs.Extents.{further_at}
use Rattle.java_grammar.proofs.Rows.{row_step}
use Rattle.java_grammar.proofs.types.further_words_length.Goals as goal

pub loop-at-preserved : goal.loop-at-preserved
loop-at-preserved c =
    let h = c.loop-at.invariant in
    let rest = simp (take_rest, length-drop) at c.further_length-more.ensures.within in
    let within : c.loop-at.at + c.further_length-more.result ≤ length c.args.tokens.now = omega
    (arith, rest) in record {
      counted = row_step further_at _ _ _ c.further_length-more.ensures.counted
          (omega arith) within h.counted;
      within = within;
    }
