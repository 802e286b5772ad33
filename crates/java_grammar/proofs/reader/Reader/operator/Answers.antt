use Rattle.std.proofs.Common.{◌≡◌, sym, ◌∙◌, ap, ◌∷◌, ◌++◌, Some, None, arith}
use Rattle.std.proofs.lemmas.List.{take_rest}
use Rattle.java_grammar.specs.Parts.{part_of}
use Rattle.java_grammar.specs.Marks.{Single, marks, edge_marks}
use Rattle.java_grammar.specs.Tests.{angles}
use Rattle.java_grammar.specs.Reading.{binary_of}
use Rattle.java_grammar.proofs.Marking.{First, single_first}
use Rattle.java_grammar.proofs.Operators.{no_operator, operator_alone, angles_read}
use Rattle.java_grammar.proofs.reader.Reader.operator.Goals as goal

pub returns-then-angles-gt0-clause-read : goal.returns-then-angles-gt0-clause-read
returns-then-angles-gt0-clause-read c =
    let first : First c.self.inside.rest.now c.first-item.result c.angles-angles.result = record {
      some = c.in-len1-up.len_at_least;
      is = c.first-item.is;
      counted = c.angles-angles.ensures ∙ ap angles c.of-part.ensures;
    } in
    angles_read c.self.inside.rest.now _ _ c.self.inside.taken _ _ _ first (omega arith)
    c.self.invariant c.self.view_is c.angle_operator-operator.ensures

pub returns-in-Some-clause-read : goal.returns-in-Some-clause-read
returns-in-Some-clause-read c =
    let first : First c.self.inside.rest.now c.first-item.result c.angles-angles.result = record {
      some = c.in-len1-up.len_at_least;
      is = c.first-item.is;
      counted = c.angles-angles.ensures ∙ ap angles c.of-part.ensures;
    } in
    let none : angles (part_of c.first-item.result) ≡ 0 = omega (arith, first.counted) in
    let is : binary_of (part_of c.first-item.result) ≡ Some c.in-Some.operator =
    ap binary_of (sym c.of-part.ensures) ∙ sym c.binary.ensures ∙ c.in-Some.is in
    operator_alone _ _ _ _
    (sym c.self.view_is
    ∙ ap (λ l. l ++ edge_marks c.self.inside.end)
    (single_first c.self.inside.rest.now _ _ c.self.inside.taken first (omega arith)
    c.self.invariant)
    ∙ ap (λ x. Single c.first-item.result ∷ (marks x ++ edge_marks c.self.inside.end))
    (sym (take_rest c.self.inside.rest.now 1)))
    is none

pub returns-in-None-clause-none : goal.returns-in-None-clause-none
returns-in-None-clause-none c =
    let first : First c.self.inside.rest.now c.first-item.result c.angles-angles.result = record {
      some = c.in-len1-up.len_at_least;
      is = c.first-item.is;
      counted = c.angles-angles.ensures ∙ ap angles c.of-part.ensures;
    } in
    let is : binary_of (part_of c.first-item.result) ≡ None =
    ap binary_of (sym c.of-part.ensures) ∙ sym c.binary.ensures ∙ c.in-None.is in
    no_operator _ _ _
    (sym c.self.view_is
    ∙ ap (λ l. l ++ edge_marks c.self.inside.end)
    (single_first c.self.inside.rest.now _ _ c.self.inside.taken first (omega arith)
    c.self.invariant))
    is
