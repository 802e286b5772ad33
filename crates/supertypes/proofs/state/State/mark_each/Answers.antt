use Rattle.supertypes.proofs.Marked.{grew_next}
use Rattle.supertypes.proofs.state.State.mark_each.Goals as goal

pub loop-class-preserved : goal.loop-class-preserved
loop-class-preserved c = record {
  steady = c.mark_new.ensures.steady;
  grew = grew_next c.args.self.now c.loop-class.self c.mark_new.new.self c.args.classes.now
      c.loop-class.class-index _ c.loop-class-test.true c.loop-class.invariant.grew
      c.mark_new.ensures.grew;
}
