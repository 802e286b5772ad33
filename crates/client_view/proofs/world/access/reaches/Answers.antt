use Rattle.std.proofs.Common.{◌≡◌, refl, ℕ, zero, suc, List}
use Rattle.supertypes.specs.Ways.{Reaches, IsBelow}
use Rattle.client_view.proofs.world.access.reaches.Goals as goal

pub returns-then-lower-upper-clause-is : goal.returns-then-lower-upper-clause-is
returns-then-lower-upper-clause-is c = (λ t. (0, c.if-lower-upper.true), λ way. refl)

strictly : (graph : List (List ℕ)) (lower upper : ℕ) → (lower ≡ upper → ⊥) →
    Reaches graph lower upper → IsBelow graph lower upper
strictly graph lower upper differ (zero, same) = absurd (differ same)
strictly graph lower upper differ (suc steps, way) = (way.0, way.1, (steps, way.2))

pub returns-clause-is : goal.returns-clause-is
returns-clause-is c = (
  λ t. let below = (c.is_strictly_above.ensures.is.0 t).1 in
      (suc below.2.0, (below.0, below.1, below.2.1)),
  λ way. c.is_strictly_above.ensures.is.1 (
    c.requires.few,
    strictly c.args.graph.now c.args.lower c.args.upper c.if-lower-upper.false way,
  ),
)
