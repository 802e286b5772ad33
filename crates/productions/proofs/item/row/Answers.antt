use Rattle.std.proofs.Common.{◌≡◌, sym, ap, ◌∙◌, Some, None}
use Rattle.type_expr_parser.specs.Reading.{found}
use Rattle.type_expr_parser.proofs.Loops.{goes_on, stops, is_done}
use Rattle.productions.proofs.item.row.Goals as goal

pub returns-in-Err-NotSpelled : goal.returns-in-Err-NotSpelled
returns-in-Err-NotSpelled g c =
    let item = g.I.Item.line.read c.args.depth in
    let none : item c.loop.reader ≡ None = ap item (sym c.fork-ahead.ensures)
    ∙ (rw c.in-Err-NotSpelled.field-0-is at c.in-Err-NotSpelled.ensures) in
    rw c.of.ensures
    (ap Some (stops item c.loop.items.items c.args.depth c.loop.counter c.loop.reader _
    c.loop-test.true none c.loop.invariant))

pub loop-preserved : goal.loop-preserved
loop-preserved g c =
    let item = g.I.Item.line.read c.args.depth in
    let one : item c.loop.reader ≡ found c.in-Ok.item c.read.new.reader =
    ap item (sym c.fork-ahead.ensures) ∙ c.in-Ok.ensures in
    rw c.in_ok-push-in-Ok.ensures.items
    (goes_on item c.loop.items.items c.args.depth c.loop.counter c.loop.reader c.in-Ok.item
    c.read.new.reader _ c.loop-test.true one c.loop.invariant)

pub returns : goal.returns
returns g c =
    let item = g.I.Item.line.read c.args.depth in
    rw c.of-2.ensures
    (ap Some (is_done item c.loop.items.items c.args.depth c.loop.counter c.loop.reader _
    c.loop-test.false c.loop.invariant))
