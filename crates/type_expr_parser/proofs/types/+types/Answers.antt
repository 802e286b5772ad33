use Rattle.std.proofs.Common.{◌≡◌, sym, ap, ◌∙◌, Some, None}
use Rattle.type_expr_parser.specs.Reading.{found}
use Rattle.type_expr_parser.specs.Types.{type_at, further_part_over, further_arg_over}
use Rattle.type_expr_parser.proofs.Loops.{goes_on, stops, is_done}
use Rattle.type_expr_parser.proofs.types.+types.Goals as goal

pub args_from-returns-in-Err-NotSpelled : goal.args_from-returns-in-Err-NotSpelled
args_from-returns-in-Err-NotSpelled t c =
    let item = further_arg_over (type_at c.args.depth) c.args.depth in
    let none : item c.loop.reader ≡ None = ap item (sym c.fork-ahead.ensures)
    ∙ (rw c.in-Err-NotSpelled.field-0-is at c.in-Err-NotSpelled.ensures) in
    rw c.of.ensures
    (ap Some (stops item c.loop.args.items c.args.depth c.loop.counter c.loop.reader _
    c.loop-test.true none c.loop.invariant))

pub args_from-loop-preserved : goal.args_from-loop-preserved
args_from-loop-preserved t c =
    let item = further_arg_over (type_at c.args.depth) c.args.depth in
    let one : item c.loop.reader ≡ found c.in-Ok.arg c.further_arg.new.reader =
    ap item (sym c.fork-ahead.ensures) ∙ c.in-Ok.ensures in
    rw c.in_ok-push-in-Ok.ensures.items
    (goes_on item c.loop.args.items c.args.depth c.loop.counter c.loop.reader c.in-Ok.arg
    c.further_arg.new.reader _ c.loop-test.true one c.loop.invariant)

pub args_from-returns : goal.args_from-returns
args_from-returns t c =
    let item = further_arg_over (type_at c.args.depth) c.args.depth in
    rw c.of-2.ensures
    (ap Some (is_done item c.loop.args.items c.args.depth c.loop.counter c.loop.reader _
    c.loop-test.false c.loop.invariant))

pub parts_from-returns-in-Err-NotSpelled : goal.parts_from-returns-in-Err-NotSpelled
parts_from-returns-in-Err-NotSpelled t c =
    let item = further_part_over (type_at c.args.depth) c.args.depth in
    let none : item c.loop.reader ≡ None = ap item (sym c.fork-ahead.ensures)
    ∙ (rw c.in-Err-NotSpelled.field-0-is at c.in-Err-NotSpelled.ensures) in
    rw c.of.ensures
    (ap Some (stops item c.loop.parts.items c.args.depth c.loop.counter c.loop.reader _
    c.loop-test.true none c.loop.invariant))

pub parts_from-loop-preserved : goal.parts_from-loop-preserved
parts_from-loop-preserved t c =
    let item = further_part_over (type_at c.args.depth) c.args.depth in
    let one : item c.loop.reader ≡ found c.in-Ok.part c.further_part.new.reader =
    ap item (sym c.fork-ahead.ensures) ∙ c.in-Ok.ensures in
    rw c.in_ok-push-in-Ok.ensures.items
    (goes_on item c.loop.parts.items c.args.depth c.loop.counter c.loop.reader c.in-Ok.part
    c.further_part.new.reader _ c.loop-test.true one c.loop.invariant)

pub parts_from-returns : goal.parts_from-returns
parts_from-returns t c =
    let item = further_part_over (type_at c.args.depth) c.args.depth in
    rw c.of-2.ensures
    (ap Some (is_done item c.loop.parts.items c.args.depth c.loop.counter c.loop.reader _
    c.loop-test.false c.loop.invariant))
