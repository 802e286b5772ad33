use Rattle.std.proofs.Common.{◌≡◌}
use Rattle.supertypes.specs.declared.rings.Standing.TheVariants.{New}
use Rattle.supertypes.specs.Going.{IsOnWay, WereNew, standing_in, work}
use Rattle.supertypes.proofs.rings.Rings.settle_from.Given as goal

abbrev pub invariant-loop-self : goal.invariant-loop-self
invariant-loop-self l = record {
  on_way : IsOnWay l.graph l.self;
  new : WereNew l.fn.self l.self;
  started : standing_in l.self.standings.items l.class ≡ New → ⊥;
}

abbrev pub decreases-loop-self : goal.decreases-loop-self
decreases-loop-self l = work l.self
