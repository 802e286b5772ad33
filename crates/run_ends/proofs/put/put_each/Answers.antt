use Rattle.hdr_core.proofs.Grown.{on_err}
use Rattle.run_ends.proofs.Written.{wrote_below}
use Rattle.run_ends.proofs.put.put_each.Goals as goal

pub returns-in_err-put-clause-err : goal.returns-in_err-put-clause-err
returns-in_err-put-clause-err g c =
    on_err _
    (wrote_below (g.O.Outs.written c.args.outs.now) (g.O.Outs.written c.loop-file.outs)
    (g.O.Outs.written c.put.new.self) c.loop-file.file-index c.args.files.now
    c.loop-file.invariant.written c.in_err-put.ensures.err)
