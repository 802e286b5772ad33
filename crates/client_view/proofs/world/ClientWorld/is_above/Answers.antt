use Rattle.std.proofs.Common.{◌≡◌, ◌∙◌, ap, sym, subst, List, ℕ, length}
use Rattle.std.specs.Prelude.{slice_get, option_and_then}
use Rattle.class_views.specs.World.{is_among, chain}
use Rattle.client_view.specs.Numbers.{views}
use Rattle.client_view.proofs.Inside.{number_small}
use Rattle.client_view.proofs.Numbered.{number_there, class_by_number}
use Rattle.client_view.proofs.Walks.{chain_gone}
use Rattle.client_view.proofs.world.ClientWorld.is_above.Goals as goal

pub is_on_chain-requires-clause-lower : goal.is_on_chain-requires-clause-lower
is_on_chain-requires-clause-lower c =
    number_small c.args.self.now c.args.name.now c.in-Some.lower c.in-Some.ensures

pub returns-in-Some-clause-is : goal.returns-in-Some-clause-is
returns-in-Some-clause-is c = λ v at.
    let own = number_there (views c.args.self.now) c.args.name.now c.in-Some.lower
    (sym c.in-Some.ensures) in
    subst (λ (s : List ℕ). c.is_on_chain.result
    ≡ is_among v.name (chain (views c.args.self.now) s)) own.named
    (c.is_on_chain.ensures.is own.class v own.there at)

pub returns-in-None-clause-is : goal.returns-in-None-clause-is
returns-in-None-clause-is c = λ v at.
    let world = views c.args.self.now in
    sym (ap (is_among v.name) (chain_gone world (length world) c.args.name.now
    (class_by_number world c.args.name.now
    ∙ ap (option_and_then (slice_get world)) (sym c.in-None.ensures))))
