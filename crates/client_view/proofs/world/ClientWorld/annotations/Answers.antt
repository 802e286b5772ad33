use Rattle.client_view.specs.Numbers.{views}
use Rattle.client_view.specs.Replies.{client_seen, part_seen}
use Rattle.client_view.proofs.Own.{annotations_asked}
use Rattle.client_view.proofs.world.ClientWorld.annotations.Goals as goal

pub returns-in-Ok-clause-says : goal.returns-in-Ok-clause-says
returns-in-Ok-clause-says c =
    annotations_asked (views c.args.self.now) (client_seen c.args.client.now) c.args.class.now
    c.in-Ok.number c.in-Ok.ensures (part_seen c.args.part.now) c.annotations_at.result
    (c.annotations_at.ensures.says c.in-Ok.ensures.class c.in-Ok.ensures.there)
