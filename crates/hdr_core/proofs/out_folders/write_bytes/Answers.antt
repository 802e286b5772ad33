use Rattle.std.proofs.Common.{arith, length-drop}
use Rattle.std.proofs.lemmas.List.{take_rest}
use Rattle.hdr_core.proofs.Pieces.{appends_more}
use Rattle.hdr_core.proofs.out_folders.write_bytes.Goals as goal

pub loop-at-preserved : goal.loop-at-preserved
loop-at-preserved g c =
    let fits = simp (take_rest, length-drop) at c.in_ok-count.ensures.bound in
    let taken = simp take_rest at c.in_ok-count.ensures.bytes in
    record {
      within = omega (arith, fits);
      taken =
          appends_more _ _ _ c.loop-at.at c.in_ok-count.count c.args.bytes.now
          c.loop-at.invariant.taken taken;
    }
