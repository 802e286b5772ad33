use Rattle.std.proofs.Common.{ℕ, List, subst, ◌∙◌}
use Rattle.run_ends.specs.Outside.{sink_state}
use Rattle.run_ends.specs.Tells.{LineTold}
use Rattle.run_ends.specs.declared.status.Status.TheVariants.{Usage}
use Rattle.run_ends.proofs.tell.tell_archive.Goals as goal

pub returns : goal.returns
returns g c =
    let Told : List ℕ → Type 0 =
    λ line. LineTold Usage line c.tell_line.result (sink_state g.S.Sink c.args.err.now)
    (sink_state g.S.Sink c.tell_line.new.err) in
    subst Told (c.deref.ensures.value
    ∙ rw c.as_bytes.ensures.value at c.in-Ok.ensures) c.tell_line.ensures
