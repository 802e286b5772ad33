use Rattle.std.proofs.Common.{◌≡◌, sym, ap, ◌∙◌, true, None, take, rules}
use Rattle.java_grammar.specs.Parts.{parts}
use Rattle.java_grammar.specs.Counts.{tokens_fit}
use Rattle.java_grammar.specs.Marks.{marks}
use Rattle.type_expr_parser.specs.Reading.{found}
use Rattle.type_expr_parser.specs.Types.{type_at}
use Rattle.type_expr_parser.proofs.FrontLaws.{type_kind, longest_front, no_front_read}
use Rattle.type_expr_parser.proofs.calls.type_of.Goals as goal

pub returns-in-Ok : goal.returns-in-Ok
returns-in-Ok c =
    let fits : tokens_fit (parts c.args.tokens.now) ≡ true = search rules in
    let read : type_at c.deepest.result (marks (take c.paired-cut.result c.args.tokens.now))
    ≡ found c.in-Ok.tree c.any_type.new.reader =
    ap (type_at c.deepest.result) (sym c.of-reader.ensures) ∙ c.in-Ok.ensures in
    longest_front type_kind c.deepest.result c.paired-cut.result c.place-used.result.0
    c.place-used.result.1 c.args.tokens.now c.in-Ok.tree c.any_type.new.reader
    c.deepest.ensures c.paired-cut.ensures.held fits read c.place-used.ensures.whole
    c.place-used.ensures.counted c.place-used.ensures.angles

pub returns-in-Err-NotSpelled : goal.returns-in-Err-NotSpelled
returns-in-Err-NotSpelled c =
    let fits : tokens_fit (parts c.args.tokens.now) ≡ true = search rules in
    let none : type_at c.deepest.result
    (marks (take c.paired-cut.result c.args.tokens.now)) ≡ None =
    ap (type_at c.deepest.result) (sym c.of-reader.ensures)
    ∙ (rw c.in-Err-NotSpelled.field-0-is at c.in-Err-NotSpelled.ensures) in
    no_front_read type_kind c.deepest.result c.paired-cut.result c.args.tokens.now
    c.deepest.ensures c.paired-cut.ensures.held fits none
