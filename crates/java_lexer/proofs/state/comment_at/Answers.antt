use Rattle.std.proofs.Common.{◌≡◌, ℕ, ◌+◌, ◌∙◌, ap, Some, arith}
use Rattle.std.proofs.lemmas.List.{take_rest}
use Rattle.java_lexer.proofs.Longest.{moved, comment_scanned}
use Rattle.java_lexer.proofs.state.comment_at.Goals as goal

pub returns-in-Some-clause-value : goal.returns-in-Some-clause-value
returns-in-Some-clause-value c =
    let same : c.in-Some.length + 2 ≡ 2 + c.in-Some.length = omega arith in
    ap (λ (n : ℕ). Some (n, c.in-Some.kind)) same
    ∙ ap (moved 2) (simp take_rest at c.in-Some.ensures.value)
    ∙ comment_scanned c.args.units.now c.requires.opens c.requires.room

pub returns-in-None-clause-value : goal.returns-in-None-clause-value
returns-in-None-clause-value c =
    ap (moved 2) (simp take_rest at c.in-None.ensures.value)
    ∙ comment_scanned c.args.units.now c.requires.opens c.requires.room
