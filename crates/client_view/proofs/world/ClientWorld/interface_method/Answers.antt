use Rattle.client_view.specs.Members.{named}
use Rattle.client_view.specs.Numbers.{views}
use Rattle.client_view.specs.Replies.{client_seen}
use Rattle.client_view.proofs.Resolved.{interface_method_asked}
use Rattle.client_view.proofs.world.ClientWorld.interface_method.Goals as goal

pub returns-in-Ok-clause-says : goal.returns-in-Ok-clause-says
returns-in-Ok-clause-says c =
    interface_method_asked (views c.args.self.now) (client_seen c.args.client.now) c.args.class.now
    c.in-Ok.number c.in-Ok.ensures (named c.args.name.now c.args.descriptor.now)
    c.interface_method_of.result
    (c.interface_method_of.ensures.says c.in-Ok.ensures.class c.in-Ok.ensures.there)
