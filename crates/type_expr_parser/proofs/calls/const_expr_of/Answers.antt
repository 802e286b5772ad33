use Rattle.std.proofs.Common.{◌≡◌, sym, ap, ◌∙◌, true, false, None, rules}
use Rattle.java_grammar.specs.Parts.{parts}
use Rattle.java_grammar.specs.Counts.{expression_fits}
use Rattle.java_grammar.specs.Marks.{marks}
use Rattle.java_grammar.specs.Reading.{is_end}
use Rattle.type_expr_parser.specs.Reading.{found}
use Rattle.type_expr_parser.specs.Expressions.{Whole, nested_at}
use Rattle.type_expr_parser.proofs.CallLaws.{expression_is, no_expression, no_whole_expression}
use Rattle.type_expr_parser.proofs.calls.const_expr_of.Goals as goal

pub returns-then-is_at_end : goal.returns-then-is_at_end
returns-then-is_at_end c =
    let fits : expression_fits (parts c.args.tokens.now) ≡ true = search rules in
    let read : nested_at c.deepest.result Whole (marks c.args.tokens.now)
    ≡ found c.in-Ok.tree c.expression.new.reader =
    ap (nested_at c.deepest.result Whole) (sym c.of-reader.ensures) ∙ c.in-Ok.ensures in
    let end : is_end c.expression.new.reader ≡ true =
    sym c.is_at_end.ensures ∙ c.if-is_at_end.true in
    expression_is c.deepest.result c.args.tokens.now c.in-Ok.tree c.expression.new.reader
    c.deepest.ensures fits read end

pub returns-else-is_at_end : goal.returns-else-is_at_end
returns-else-is_at_end c =
    let fits : expression_fits (parts c.args.tokens.now) ≡ true = search rules in
    let read : nested_at c.deepest.result Whole (marks c.args.tokens.now)
    ≡ found c.in-Ok.tree c.expression.new.reader =
    ap (nested_at c.deepest.result Whole) (sym c.of-reader.ensures) ∙ c.in-Ok.ensures in
    let more : is_end c.expression.new.reader ≡ false =
    sym c.is_at_end.ensures ∙ c.if-is_at_end.false in
    no_whole_expression c.deepest.result c.args.tokens.now c.in-Ok.tree c.expression.new.reader
    c.deepest.ensures fits read more

pub returns-in-Err-NotSpelled : goal.returns-in-Err-NotSpelled
returns-in-Err-NotSpelled c =
    let fits : expression_fits (parts c.args.tokens.now) ≡ true = search rules in
    let none : nested_at c.deepest.result Whole (marks c.args.tokens.now) ≡ None =
    ap (nested_at c.deepest.result Whole) (sym c.of-reader.ensures)
    ∙ (rw c.in-Err-NotSpelled.field-0-is at c.in-Err-NotSpelled.ensures) in
    no_expression c.deepest.result c.args.tokens.now c.deepest.ensures fits none
