use Rattle.std.proofs.Common.{subst, ℕ, ◌<◌, List, length}
use Rattle.std.specs.Prelude.{Contains, ◌↔◌}
use Rattle.supertypes.specs.Ways.{IsAboveSome}
use Rattle.client_view.specs.Sought.{meant}
use Rattle.client_view.specs.Numbers.{views}
use Rattle.client_view.specs.Sole.{IsSole}
use Rattle.client_view.proofs.Firsts.{free_graph}
use Rattle.client_view.proofs.Specific.{chosen}
use Rattle.client_view.proofs.superinterfaces.sole_candidate.Goals as goal

pub returns-clause-chosen : goal.returns-clause-chosen
returns-clause-chosen c = λ v at.
    let world = views c.args.classes.now in
    let graph = c.args.graph.now in
    let sought = meant c.args.sought.now in
    let above : List ℕ = c.gather.new.self.list in
    let sole = c.sole_concrete-sole.result in
    chosen world c.requires.apart graph c.requires.graph c.args.start v at
    (free_graph world c.requires.apart graph c.requires.graph c.args.start c.requires.free) sought
    c.gather_candidates.new.candidates.items above c.gather_candidates.ensures.each
    (subst (λ (l : List ℕ). (k : ℕ) →
    Contains above k ↔ ((k < length graph) × IsAboveSome graph l k)) c.deref.ensures.value
    c.gather.ensures.gathered) sole
    (subst (λ (l : List ℕ). IsSole world sought above l sole) c.deref-2.ensures.value
    c.sole_concrete-sole.ensures)
