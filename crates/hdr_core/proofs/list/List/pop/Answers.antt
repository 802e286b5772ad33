use Rattle.hdr_core.proofs.Stacks.{popped_top, popped_below}
use Rattle.hdr_core.proofs.list.List.pop.Goals as goal

pub returns-clause-top : goal.returns-clause-top
returns-clause-top g c =
    let e = popped_top _ _ _ _ c.pop.result c.pop.ensures.items c.pop.ensures.rest
    c.pop.ensures.cases in rw (← c.self.view_is) e

pub returns-clause-below : goal.returns-clause-below
returns-clause-below g c =
    let e = popped_below _ _ _ _ c.pop.result c.pop.ensures.items c.pop.ensures.rest
    c.pop.ensures.cases in rw (← c.self.view_is) e
