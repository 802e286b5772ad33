use Rattle.std.proofs.Common.{◌≡◌, sym, ◌∙◌, ap, ◌+◌, ◌++◌, arith}
use Rattle.std.proofs.lemmas.List.{take_rest}
use Rattle.java_grammar.specs.Marks.{marks, edge_marks}
use Rattle.java_grammar.specs.Tests.{angles}
use Rattle.java_grammar.specs.Reading.{is_angle}
use Rattle.java_grammar.proofs.Marking.{First, single_first, more_first, last_first, first_is}
use Rattle.java_grammar.proofs.Marking.{not_angle, angle_read}
use Rattle.java_grammar.proofs.reader.Reader.angle.Goals as goal

pub returns-then-angles-eq0-clause-is : goal.returns-then-angles-eq0-clause-is
returns-then-angles-eq0-clause-is c =
    let first : First c.self.inside.rest.now c.first-item.result c.angles-angles.result = record {
      some = c.in-len1-up.len_at_least;
      is = c.first-item.is;
      counted = c.angles-angles.ensures ∙ ap angles c.of.ensures;
    } in
    sym (ap is_angle (sym c.self.view_is
    ∙ ap (λ l. l ++ edge_marks c.self.inside.end)
    (single_first c.self.inside.rest.now _ _ c.self.inside.taken first c.if-angles-eq0.true
    c.self.invariant)))

pub returns-then-angles-eq0-clause-read : goal.returns-then-angles-eq0-clause-read
returns-then-angles-eq0-clause-read c =
    let first : First c.self.inside.rest.now c.first-item.result c.angles-angles.result = record {
      some = c.in-len1-up.len_at_least;
      is = c.first-item.is;
      counted = c.angles-angles.ensures ∙ ap angles c.of.ensures;
    } in
    not_angle _ _ _ (sym c.self.view_is
    ∙ ap (λ l. l ++ edge_marks c.self.inside.end)
    (single_first c.self.inside.rest.now _ _ c.self.inside.taken first c.if-angles-eq0.true
    c.self.invariant))

pub returns-then-self-angles-clause-is : goal.returns-then-self-angles-clause-is
returns-then-self-angles-clause-is c =
    let first : First c.self.inside.rest.now c.first-item.result c.angles-angles.result = record {
      some = c.in-len1-up.len_at_least;
      is = c.first-item.is;
      counted = c.angles-angles.ensures ∙ ap angles c.of.ensures;
    } in
    sym (ap is_angle (sym c.self.view_is
    ∙ ap (λ l. l ++ edge_marks c.self.inside.end)
    (more_first c.self.inside.rest.now _ _ c.self.inside.taken first c.if-self-angles.true)))

pub returns-then-self-angles-clause-read : goal.returns-then-self-angles-clause-read
returns-then-self-angles-clause-read c =
    let first : First c.self.inside.rest.now c.first-item.result c.angles-angles.result = record {
      some = c.in-len1-up.len_at_least;
      is = c.first-item.is;
      counted = c.angles-angles.ensures ∙ ap angles c.of.ensures;
    } in
    angle_read _ _ _ (sym c.self.view_is
    ∙ ap (λ l. l ++ edge_marks c.self.inside.end)
    (more_first c.self.inside.rest.now _ _ c.self.inside.taken first c.if-self-angles.true))

pub returns-else-self-angles-clause-is : goal.returns-else-self-angles-clause-is
returns-else-self-angles-clause-is c =
    let first : First c.self.inside.rest.now c.first-item.result c.angles-angles.result = record {
      some = c.in-len1-up.len_at_least;
      is = c.first-item.is;
      counted = c.angles-angles.ensures ∙ ap angles c.of.ensures;
    } in
    let last : c.self.inside.taken + 1 ≡ c.angles-angles.result = omega (arith, first_is first) in
    sym (ap is_angle (sym c.self.view_is
    ∙ ap (λ l. l ++ edge_marks c.self.inside.end)
    (last_first c.self.inside.rest.now _ _ c.self.inside.taken first last)))

pub returns-else-self-angles-clause-read : goal.returns-else-self-angles-clause-read
returns-else-self-angles-clause-read c =
    let first : First c.self.inside.rest.now c.first-item.result c.angles-angles.result = record {
      some = c.in-len1-up.len_at_least;
      is = c.first-item.is;
      counted = c.angles-angles.ensures ∙ ap angles c.of.ensures;
    } in
    let last : c.self.inside.taken + 1 ≡ c.angles-angles.result = omega (arith, first_is first) in
    ap (λ ts. marks ts ++ edge_marks c.self.inside.end) (take_rest c.self.inside.rest.now 1)
    ∙ angle_read _ _ _ (sym c.self.view_is
    ∙ ap (λ l. l ++ edge_marks c.self.inside.end)
    (last_first c.self.inside.rest.now _ _ c.self.inside.taken first last))
