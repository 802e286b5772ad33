use Rattle.supertypes.proofs.Stepped.{taken}
use Rattle.supertypes.proofs.rings.Rings.step.Goals as goal

pub explore-requires : goal.explore-requires
explore-requires c = taken c.args.graph.now c.args.self.now c.take_edge.new.self c.in-Some.edge
    c.requires.on_way c.requires.some c.in-Some.ensures.some
