use Rattle.std.proofs.Common.{sym, ◌∙◌, ap, ◌∷◌, ◌++◌, arith}
use Rattle.std.proofs.lemmas.List.{take_rest}
use Rattle.java_grammar.specs.Marks.{Single, marks, edge_marks}
use Rattle.java_grammar.specs.Tests.{angles}
use Rattle.java_grammar.specs.Reading.{front_part}
use Rattle.java_grammar.proofs.Marking.{First, single_first, angle_first, nothing_read}
use Rattle.java_grammar.proofs.reader.Reader.token.Goals as goal

pub returns-then-angles-gt0-clause-none : goal.returns-then-angles-gt0-clause-none
returns-then-angles-gt0-clause-none c =
    let first : First c.self.inside.rest.now c.first-item.result c.angles.result = record {
      some = c.in-len1-up.len_at_least;
      is = c.first-item.is;
      counted = c.angles.ensures
          ∙ ap angles c.of.ensures;
    } in
    let r = angle_first c.self.inside.rest.now _ _ c.self.inside.taken first
    (omega arith) c.self.invariant in
    nothing_read _ (ap front_part (sym c.self.view_is ∙ ap (λ l. l ++ edge_marks c.self.inside.end) r.is))

pub returns-clause-read : goal.returns-clause-read
returns-clause-read c =
    let first : First c.self.inside.rest.now c.first-item.result c.angles.result = record {
      some = c.in-len1-up.len_at_least;
      is = c.first-item.is;
      counted = c.angles.ensures
          ∙ ap angles c.of.ensures;
    } in
    sym c.self.view_is
    ∙ ap (λ l. l ++ edge_marks c.self.inside.end)
    (single_first c.self.inside.rest.now _ _ c.self.inside.taken first (omega arith)
    c.self.invariant)
    ∙ ap (λ x. Single c.first-item.result ∷ (marks x ++ edge_marks c.self.inside.end))
    (sym (take_rest c.self.inside.rest.now 1))
