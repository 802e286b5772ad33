use Rattle.client_view.specs.Members.{named}
use Rattle.client_view.specs.Numbers.{views}
use Rattle.client_view.specs.Replies.{client_seen}
use Rattle.client_view.proofs.Resolved.{method_asked}
use Rattle.client_view.proofs.world.ClientWorld.method.Goals as goal

pub returns-in-Ok-clause-says : goal.returns-in-Ok-clause-says
returns-in-Ok-clause-says c =
    method_asked (views c.args.self.now) (client_seen c.args.client.now) c.args.class.now
    c.in-Ok.number c.in-Ok.ensures (named c.args.name.now c.args.descriptor.now)
    c.class_method.result
    (c.class_method.ensures.says c.in-Ok.ensures.class c.in-Ok.ensures.there)
