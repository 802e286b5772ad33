use Rattle.std.proofs.Common.{◌∙◌, ap, sym, drop, slice_index, if◌then◌else◌}
use Rattle.std.proofs.lemmas.List.{take_rest}
use Rattle.std.proofs.lemmas.Bool.{eq-eqb}
use Rattle.java_lexer.specs.Escapes.{escape_value}
use Rattle.java_lexer.proofs.escape.character.Goals as goal

pub returns-then-units-ge2 : goal.returns-then-units-ge2
returns-then-units-ge2 c = (simp take_rest at c.escape_value.ensures)
    ∙ sym (ap (λ b. if b then escape_value (drop 2 c.args.units.now)
    else slice_index c.args.units.now 1)
    (eq-eqb _ 92 (sym c.at-first.ensures ∙ c.if-first-eq-BACKSLASH.true)))
