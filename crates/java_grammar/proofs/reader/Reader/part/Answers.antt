use Rattle.std.proofs.Common.{sym, ◌∙◌, ap, ◌++◌, arith, Some}
use Rattle.java_grammar.specs.Marks.{edge_marks}
use Rattle.java_grammar.specs.Tests.{angles}
use Rattle.java_grammar.specs.Reading.{front_part}
use Rattle.java_grammar.proofs.Marking.{First, single_first, angle_first}
use Rattle.java_grammar.proofs.reader.Reader.part.Goals as goal

pub returns-then-angles-eq0 : goal.returns-then-angles-eq0
returns-then-angles-eq0 c =
    let first : First c.self.inside.rest.now c.first-item.result c.angles.result = record {
      some = c.in-len1-up.len_at_least;
      is = c.first-item.is;
      counted = c.angles.ensures
          ∙ ap angles c.of-part.ensures;
    } in
    ap Some c.of-part.ensures
    ∙ sym (ap front_part (sym c.self.view_is
    ∙ ap (λ l. l ++ edge_marks c.self.inside.end)
    (single_first c.self.inside.rest.now _ _ c.self.inside.taken first c.if-angles-eq0.true
    c.self.invariant)))

pub returns-else-angles-eq0 : goal.returns-else-angles-eq0
returns-else-angles-eq0 c =
    let first : First c.self.inside.rest.now c.first-item.result c.angles.result = record {
      some = c.in-len1-up.len_at_least;
      is = c.first-item.is;
      counted = c.angles.ensures
          ∙ ap angles c.of-part.ensures;
    } in
    let r = angle_first c.self.inside.rest.now _ _ c.self.inside.taken first
    (omega arith) c.self.invariant in
    sym (ap front_part (sym c.self.view_is ∙ ap (λ l. l ++ edge_marks c.self.inside.end) r.is))
