use Rattle.client_view.specs.Numbers.{views}
use Rattle.client_view.specs.Replies.{client_seen}
use Rattle.client_view.proofs.Own.{constant_asked}
use Rattle.client_view.proofs.world.ClientWorld.constant.Goals as goal

pub returns-in-Ok-clause-says : goal.returns-in-Ok-clause-says
returns-in-Ok-clause-says c =
    constant_asked (views c.args.self.now) (client_seen c.args.client.now) c.args.class.now
    c.in-Ok.number c.in-Ok.ensures c.args.name.now c.own_constant-met.result
    c.own_constant-met.ensures.met c.reply.result c.reply.ensures.none c.reply.ensures.some
