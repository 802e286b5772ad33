use Rattle.std.proofs.Common.{subst}
use Rattle.client_view.specs.Numbers.{views}
use Rattle.client_view.specs.Replies.{client_seen, Says, IsClassFound}
use Rattle.client_view.proofs.Classes.{asked_alike}
use Rattle.client_view.proofs.world.ClientWorld.supers.Goals as goal

pub returns : goal.returns
returns c =
    subst (Says (views c.args.self.now) (IsClassFound (views c.args.self.now)) c.class_at.result)
    (asked_alike (views c.args.self.now) (client_seen c.args.client.now) c.args.name.now)
    c.class_at.ensures
