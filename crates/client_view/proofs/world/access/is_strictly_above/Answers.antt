use Rattle.client_view.proofs.Filtered.{above_one, one_above}
use Rattle.client_view.proofs.world.access.is_strictly_above.Goals as goal

pub returns-clause-is : goal.returns-clause-is
returns-clause-is c = (
  λ t. let found = (c.gather.ensures.gathered c.args.upper).0 (c.has-is_above.ensures.0 t) in
      (found.0, above_one c.args.graph.now c.args.lower c.args.upper found.1),
  λ both. c.has-is_above.ensures.1 ((c.gather.ensures.gathered c.args.upper).1 (
    both.0,
    one_above c.args.graph.now c.args.lower c.args.upper both.1,
  )),
)
