use Rattle.std.proofs.Common.{◌≡◌, ◌∙◌, ◌-◌, ap, take, arith}
use Rattle.client_view.proofs.Slashes.{before_slash}
use Rattle.client_view.proofs.package.package_of.Goals as goal

pub returns-then-name-end-eq47 : goal.returns-then-name-end-eq47
returns-then-name-end-eq47 c =
    before_slash c.args.name.now c.loop-end.end c.loop-end.invariant.within
    c.loop-end.invariant.behind (λ some. c.if-name-end-eq47.true)

pub returns : goal.returns
returns c =
    let none = c.loop-end-test.false in
    let e : 0 ≡ c.loop-end.end - 1 = omega (arith, none) in
    ap (λ n. take n c.args.name.now) e
    ∙ before_slash c.args.name.now c.loop-end.end c.loop-end.invariant.within
    c.loop-end.invariant.behind (λ some. absurd (omega (arith, none, some)))
