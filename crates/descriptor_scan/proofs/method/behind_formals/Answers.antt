use Rattle.std.proofs.Common.{◌≡◌, ◌∷◌, ℕ, List, arith, rules}
use Rattle.descriptor_scan.proofs.Passed.{otherwise_at, otherwise_at_end}
use Rattle.descriptor_scan.proofs.Methods.{so_far_more, none_passed, shorter}
use Rattle.descriptor_scan.proofs.method.behind_formals.Goals as goal
use Rattle.descriptor_scan.proofs.method.behind_formals.Goals.{then-rest-lt1}
use Rattle.descriptor_scan.proofs.method.behind_formals.Goals.{else-rest-lt1+in_default-1}

pub loop-rest-smaller : goal.loop-rest-smaller
loop-rest-smaller c = shorter c.loop-rest.rest.now c.in-Some.behind.now c.in-Some.ensures

pub loop-rest-preserved : goal.loop-rest-preserved
loop-rest-preserved c
    = so_far_more c.args.text.now c.loop-rest.rest.now c.in-Some.behind.now c.loop-rest.count
    c.slots_at-count.result c.loop-rest.invariant c.in-Some.ensures c.slots_at-count.ensures

pub returns-in_default-behind_field : goal.returns-in_default-behind_field
returns-in_default-behind_field c =
    let rest = c.loop-rest.rest.now in
    let other : (later : List ℕ) → rest ≡ 41 ∷ later
    → ⊥ = elim c.if-rest-lt1.branch [
      | then-rest-lt1 w ↦ otherwise_at_end 41 rest
          (search rules)
      | else-rest-lt1+in_default-1 w ↦ otherwise_at 41 rest (λ e. absurd
          (omega arith))
    ] in
    none_passed c.args.text.now rest c.loop-rest.count c.loop-rest.invariant other
    c.in_default-behind_field.ensures
