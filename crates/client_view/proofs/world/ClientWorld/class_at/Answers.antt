use Rattle.client_view.specs.Numbers.{views}
use Rattle.client_view.specs.Replies.{client_seen}
use Rattle.client_view.proofs.Classes.{no_class, found_class, hidden_class}
use Rattle.client_view.proofs.Inside.{number_small}
use Rattle.client_view.proofs.world.ClientWorld.class_at.Goals as goal

pub is_accessible-requires : goal.is_accessible-requires
is_accessible-requires c =
    number_small c.args.self.now c.args.name.now c.in-Some.number c.in-Some.ensures

pub returns-then-is_accessible : goal.returns-then-is_accessible
returns-then-is_accessible c =
    found_class (views c.args.self.now) (client_seen c.args.client.now) c.args.name.now
    c.in-Some.number c.in-Some.ensures c.is_accessible.result c.is_accessible.ensures
    c.if-is_accessible.true

pub returns-else-is_accessible : goal.returns-else-is_accessible
returns-else-is_accessible c =
    hidden_class (views c.args.self.now) (client_seen c.args.client.now) c.args.name.now
    c.in-Some.number c.in-Some.ensures c.is_accessible.result c.is_accessible.ensures
    c.if-is_accessible.false

pub returns-in-None : goal.returns-in-None
returns-in-None c =
    no_class (views c.args.self.now) (client_seen c.args.client.now) c.args.name.now
    c.in-None.ensures
