use Rattle.std.proofs.Common.{◌≡◌, sym, ap, ◌∙◌, Some, None, List}
use Rattle.java_grammar.specs.Marks.{Mark}
use Rattle.type_expr_parser.specs.Reading.{found}
use Rattle.type_expr_parser.specs.Annotations.{annotation_at}
use Rattle.type_expr_parser.proofs.Loops.{passes, passing_stops, passing_is_done}
use Rattle.type_expr_parser.proofs.annotation.pass_annotations.Goals as goal

pub returns-in-Err-NotSpelled : goal.returns-in-Err-NotSpelled
returns-in-Err-NotSpelled c =
    let item = annotation_at c.args.depth in
    let none : item c.loop.reader ≡ None = ap item (sym c.fork-ahead.ensures)
    ∙ (rw c.in-Err-NotSpelled.field-0-is at c.in-Err-NotSpelled.ensures) in
    ap (λ (l : List Mark). Some (tt, l))
    (passing_stops item c.args.depth c.loop.counter c.loop.reader _ c.loop-test.true none
    c.loop.invariant)

pub loop-preserved : goal.loop-preserved
loop-preserved c =
    let item = annotation_at c.args.depth in
    let one : item c.loop.reader ≡ found c.in-Ok.field-0 c.annotation.new.reader =
    ap item (sym c.fork-ahead.ensures) ∙ c.in-Ok.ensures in
    passes item c.args.depth c.loop.counter c.loop.reader c.in-Ok.field-0 c.annotation.new.reader _
    c.loop-test.true one c.loop.invariant

pub returns : goal.returns
returns c =
    let item = annotation_at c.args.depth in
    ap (λ (l : List Mark). Some (tt, l))
    (passing_is_done item c.args.depth c.loop.counter c.loop.reader _ c.loop-test.false
    c.loop.invariant)
