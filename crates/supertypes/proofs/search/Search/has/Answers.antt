use Rattle.std.proofs.Common.{◌∙◌, ap, sym, subst, ℕ, List}
use Rattle.std.specs.Prelude.{Contains}
use Rattle.supertypes.specs.Found.{Found}
use Rattle.supertypes.proofs.search.Search.has.Goals as goal

pub returns : goal.returns
returns c =
    let seen = ap (λ (f : Found). f.list) c.self.view_is in (
      (λ marked. subst (λ (l : List ℕ). Contains l c.args.class) seen
          (c.self.invariant.steady.marked c.args.class (sym c.has.ensures ∙ marked))),
      (λ here. c.has.ensures ∙ c.self.invariant.steady.listed c.args.class
          (subst (λ (l : List ℕ). Contains l c.args.class) (sym seen) here)),
    )
