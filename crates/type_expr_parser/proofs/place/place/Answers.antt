use Rattle.std.proofs.Common.{◌≡◌, ◌<◌, ◌+◌, ◌*◌, ◌-◌, ap, ◌∙◌, rules, arith, length, drop}
use Rattle.java_grammar.specs.Marks.{marks, edge_marks}
use Rattle.type_expr_parser.proofs.Places.{few_rest, tail_all, whole_front}
use Rattle.type_expr_parser.proofs.place.place.Goals as goal

pub returns-then-rest-tokens-clause-whole : goal.returns-then-rest-tokens-clause-whole
returns-then-rest-tokens-clause-whole c = λ front whole.
    let read = c.rest-taken.result in
    let many : 3 * length c.args.tokens.now + 2 < length read.0.now = search rules in
    let few = few_rest c.args.tokens.now read.0.now c.args.cut
    read.1 front (edge_marks read.2) c.args.reader.now c.rest-taken.ensures.marks
    c.rest-taken.ensures.within whole in
    absurd (omega arith)

pub returns-clause-whole : goal.returns-clause-whole
returns-clause-whole c = λ front whole.
    let read = c.rest-taken.result in
    let end = edge_marks read.2 in
    let after = ((c.marks_of.result - read.1) + length end) + c.marks_of-2.result in
    let count : c.saturating_sub-2.result ≡ c.marks_of-3.result - after = search rules in
    whole_front c.args.tokens.now read.0.now c.args.cut read.1
    c.marks_of-3.result c.marks_of.result c.marks_of-2.result front end c.args.reader.now
    c.place_behind-2.result.0 c.place_behind-2.result.1 c.rest-taken.ensures.marks whole
    c.marks_of-3.ensures.counted c.marks_of.ensures.counted
    (c.marks_of-2.ensures.counted
    ∙ ap (λ l. length (marks l)) (tail_all c.args.tokens.now c.args.cut))
    (c.place_behind-2.ensures.behind ∙ ap (λ k. drop k (marks c.args.tokens.now)) count)
