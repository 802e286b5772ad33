use Rattle.std.proofs.lemmas.Bool.{OnTrue_from}
use Rattle.std.proofs.Common.{◌≡◌, ap, ◌∙◌, arith, nat_eq}
use Rattle.java_lexer.specs.declared.state.State.TheVariants as state
use Rattle.java_lexer.specs.Machine.{next_state}
use Rattle.java_lexer.proofs.FrontLemmas.{space_step, line_step}
use Rattle.java_lexer.proofs.state.is_blank.Goals as goal

pub returns-then-unit : goal.returns-then-unit
returns-then-unit c =
    OnTrue_from (nat_eq c.args.unit 32) _ (λ e. let same : c.args.unit ≡ 32 = grind (arith, e) in
    ap (next_state state.Start) same ∙ space_step)

pub returns-else-unit : goal.returns-else-unit
returns-else-unit c =
    OnTrue_from (nat_eq c.args.unit 10) _ (λ e. let same : c.args.unit ≡ 10 = grind (arith, e) in
    ap (next_state state.Start) same ∙ line_step)
