use Rattle.std.proofs.Common.{arith, rules}
use Rattle.hdr_core.specs.Diagnostics.{line_of}
use Rattle.hdr_core.proofs.Grown.{grew_items, grown_items, on_err}
use Rattle.hdr_core.proofs.diagnostics.print_diags.Goals as goal

pub returns-in_err-print_diag-clause-err : goal.returns-in_err-print_diag-clause-err
returns-in_err-print_diag-clause-err g c =
    on_err _ (grew_items line_of _ _ _ c.loop-diag.diag-index _ _ _ (omega arith)
    c.loop-diag.invariant.told c.diag-item.is c.in_err-print_diag.ensures.err)

pub loop-diag-preserved : goal.loop-diag-preserved
loop-diag-preserved g c = record {
  told =
      grown_items line_of _ _ _ c.loop-diag.diag-index _ _ (omega arith) c.loop-diag.invariant.told
      c.diag-item.is c.in_ok-print_diag.ensures.ok;
  faults = search rules;
}
