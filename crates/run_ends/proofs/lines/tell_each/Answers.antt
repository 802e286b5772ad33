use Rattle.std.proofs.Common.{ℕ, List, arith, rules}
use Rattle.hdr_core.proofs.Grown.{grew_items, grown_items, on_err}
use Rattle.run_ends.proofs.lines.tell_each.Goals as goal

abbrev whole : List ℕ → List ℕ
whole line = line

pub returns-in_err-write_whole-clause-err : goal.returns-in_err-write_whole-clause-err
returns-in_err-write_whole-clause-err g c =
    on_err _ (grew_items whole _ _ _ c.loop-line.line-index _ _ _ (omega arith)
    c.loop-line.invariant.told c.line-item.is
    (rw c.bytes.ensures at c.in_err-write_whole.ensures.err))

pub loop-line-preserved : goal.loop-line-preserved
loop-line-preserved g c = record {
  told =
      grown_items whole _ _ _ c.loop-line.line-index _ _ (omega arith) c.loop-line.invariant.told
      c.line-item.is (rw c.bytes.ensures at c.in_ok-write_whole.ensures.ok);
  faults = search rules;
}
