use Rattle.std.proofs.Common.{sym}
use Rattle.client_view.specs.Numbers.{views}
use Rattle.client_view.specs.Replies.{client_seen}
use Rattle.client_view.proofs.Inside.{number_small}
use Rattle.client_view.proofs.Starts.{nothing_starts}
use Rattle.client_view.proofs.world.ClientWorld.start.Goals as goal

pub enter-requires : goal.enter-requires
enter-requires c =
    number_small c.args.self.now c.args.name.now c.in-Some.number c.in-Some.ensures

pub returns-in-Some : goal.returns-in-Some
returns-in-Some c = c.enter.ensures c.args.name.now (sym c.in-Some.ensures)

pub returns-in-None : goal.returns-in-None
returns-in-None c =
    nothing_starts (views c.args.self.now) (client_seen c.args.client.now) c.args.name.now
    (sym c.in-None.ensures)
