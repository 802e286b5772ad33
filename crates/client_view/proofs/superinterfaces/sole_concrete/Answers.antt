use Rattle.std.proofs.Common.{subst, sym, ℕ, take, ◌+◌, Option}
use Rattle.client_view.specs.Sought.{meant}
use Rattle.client_view.specs.Numbers.{views}
use Rattle.client_view.specs.Sole.{IsSoleYet}
use Rattle.client_view.proofs.Counted.{past_one, another_one, met_one}
use Rattle.client_view.proofs.superinterfaces.sole_concrete.Goals as goal
use Rattle.client_view.proofs.superinterfaces.sole_concrete.Goals.{then-stands_out+else-is_another}
use Rattle.client_view.proofs.superinterfaces.sole_concrete.Goals.{else-stands_out}

pub returns-then-is_another : goal.returns-then-is_another
returns-then-is_another c =
    another_one (views c.args.classes.now) (meant c.args.sought.now)
    c.args.search.now.list c.args.candidates.now c.loop-class.class-index _ c.loop-class-test.true
    c.loop-class.sole c.loop-class.invariant (c.stands_out.ensures.lone c.if-stands_out.true)
    (c.stands_out.ensures.concrete c.if-stands_out.true)
    (c.is_another.ensures.some c.if-is_another.true) (c.is_another.ensures.is c.if-is_another.true)

pub loop-class-preserved : goal.loop-class-preserved
loop-class-preserved c =
    let world = views c.args.classes.now in
    let sought = meant c.args.sought.now in
    let above = c.args.search.now.list in
    let candidates = c.args.candidates.now in
    let i : ℕ = c.loop-class.class-index in
    let few = c.loop-class-test.true in
    elim c.if-stands_out.branch [
      | then-stands_out+else-is_another w ↦
          subst (λ (o : Option ℕ). IsSoleYet world sought above (take (i + 1) candidates) o)
          (sym w.sole-is)
          (met_one world sought above candidates i _ few c.loop-class.sole c.loop-class.invariant
          (c.stands_out.ensures.lone w.if-stands_out.true)
          (c.stands_out.ensures.concrete w.if-stands_out.true)
          (λ n e. w.is_another.ensures.none n w.if-is_another.false e))
      | else-stands_out w ↦
          subst (λ (o : Option ℕ). IsSoleYet world sought above (take (i + 1) candidates) o)
          (sym w.sole-is)
          (past_one world sought above candidates i _ few c.loop-class.sole
          c.loop-class.invariant (c.stands_out.ensures.fails w.if-stands_out.false))
    ]
