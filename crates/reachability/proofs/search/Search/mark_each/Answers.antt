use Rattle.reachability.proofs.Searched.{grew_next}
use Rattle.reachability.proofs.search.Search.mark_each.Goals as goal

pub loop-number-preserved : goal.loop-number-preserved
loop-number-preserved c = grew_next c.args.self.now c.loop-number.self c.mark.new.self
    c.args.numbers.now c.loop-number.number-index _ c.loop-number-test.true
    c.loop-number.invariant c.in_ok-mark.ensures
