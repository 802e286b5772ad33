use Rattle.std.proofs.Common.{◌∙◌, sym, arith}
use Rattle.client_view.specs.Numbers.{views}
use Rattle.client_view.specs.Replies.{client_seen}
use Rattle.client_view.proofs.Graphs.{get_there}
use Rattle.client_view.proofs.Inside.{seen_length}
use Rattle.client_view.proofs.Numbered.{number_there}
use Rattle.client_view.proofs.Starts.{hidden_starts, ring_starts, free_starts}
use Rattle.client_view.proofs.world.ClientWorld.enter.Goals as goal

pub returns-in-Some : goal.returns-in-Some
returns-in-Some c = λ name is.
    let world = views c.args.self.now in
    let at = number_there world name c.args.class is in
    let ring = get_there world c.in-Some.ring
    (let few = c.in-Some.ensures.there in let long = seen_length c.args.self.now in
    omega (arith, few, long)) in
    ring_starts world (client_seen c.args.client.now) name c.args.class at.class is at.there
    c.in-Some.ring ring.0 (sym (c.is_accessible.ensures at.class at.there)
    ∙ c.if-is_accessible.true) (c.in-Some.ensures.is at.class at.there ∙ ring.1) ring.1

pub returns-in-None : goal.returns-in-None
returns-in-None c = λ name is.
    let world = views c.args.self.now in
    let at = number_there world name c.args.class is in
    free_starts world (client_seen c.args.client.now) name c.args.class at.class is at.there
    (sym (c.is_accessible.ensures at.class at.there) ∙ c.if-is_accessible.true)
    (c.in-None.ensures.is at.class at.there)

pub returns-else-is_accessible : goal.returns-else-is_accessible
returns-else-is_accessible c = λ name is.
    let world = views c.args.self.now in
    let at = number_there world name c.args.class is in
    hidden_starts world (client_seen c.args.client.now) name c.args.class at.class is at.there
    (sym (c.is_accessible.ensures at.class at.there) ∙ c.if-is_accessible.false)
