use Rattle.std.proofs.Common.{◌≡◌, sym, ap, ◌∙◌, Some, None}
use Rattle.type_expr_parser.specs.Reading.{found}
use Rattle.type_expr_parser.specs.Expressions.{nested_at, chain_over, link_over}
use Rattle.type_expr_parser.proofs.Loops.{goes_on, stops, is_done}
use Rattle.type_expr_parser.proofs.expression.+expressions.Goals as goal

pub links-returns-in-Err-NotSpelled : goal.links-returns-in-Err-NotSpelled
links-returns-in-Err-NotSpelled t c =
    let item = link_over (chain_over (nested_at c.args.depth) c.args.depth c.args.loosest)
    c.args.loosest in
    let none : item c.loop.reader ≡ None = ap item (sym c.fork-ahead.ensures)
    ∙ (rw c.in-Err-NotSpelled.field-0-is at c.in-Err-NotSpelled.ensures) in
    rw c.of.ensures
    (ap Some (stops item c.loop.links.items c.args.depth c.loop.counter c.loop.reader _
    c.loop-test.true none c.loop.invariant))

pub links-loop-preserved : goal.links-loop-preserved
links-loop-preserved t c =
    let item = link_over (chain_over (nested_at c.args.depth) c.args.depth c.args.loosest)
    c.args.loosest in
    let one : item c.loop.reader ≡ found c.in-Ok.link c.link.new.reader =
    ap item (sym c.fork-ahead.ensures) ∙ c.in-Ok.ensures in
    rw c.in_ok-push-in-Ok.ensures.items
    (goes_on item c.loop.links.items c.args.depth c.loop.counter c.loop.reader c.in-Ok.link
    c.link.new.reader _ c.loop-test.true one c.loop.invariant)

pub links-returns : goal.links-returns
links-returns t c =
    let item = link_over (chain_over (nested_at c.args.depth) c.args.depth c.args.loosest)
    c.args.loosest in
    rw c.of-2.ensures
    (ap Some (is_done item c.loop.links.items c.args.depth c.loop.counter c.loop.reader _
    c.loop-test.false c.loop.invariant))
