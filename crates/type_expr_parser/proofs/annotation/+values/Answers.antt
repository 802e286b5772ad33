use Rattle.std.proofs.Common.{◌≡◌, sym, ap, ◌∙◌, Some, None}
use Rattle.type_expr_parser.specs.Reading.{found}
use Rattle.type_expr_parser.specs.Annotations.{value_at, further_value_over, further_pair_over}
use Rattle.type_expr_parser.proofs.Loops.{goes_on, stops, is_done}
use Rattle.type_expr_parser.proofs.annotation.+values.Goals as goal

pub values_from-returns-in-Err-NotSpelled : goal.values_from-returns-in-Err-NotSpelled
values_from-returns-in-Err-NotSpelled t c =
    let item = further_value_over (value_at c.args.depth) in
    let none : item c.loop.reader ≡ None = ap item (sym c.fork-ahead.ensures)
    ∙ (rw c.in-Err-NotSpelled.field-0-is at c.in-Err-NotSpelled.ensures) in
    rw c.of.ensures
    (ap Some (stops item c.loop.values.items c.args.depth c.loop.counter c.loop.reader _
    c.loop-test.true none c.loop.invariant))

pub values_from-loop-preserved : goal.values_from-loop-preserved
values_from-loop-preserved t c =
    let item = further_value_over (value_at c.args.depth) in
    let one : item c.loop.reader ≡ found c.in-Ok.value c.further_value.new.reader =
    ap item (sym c.fork-ahead.ensures) ∙ c.in-Ok.ensures in
    rw c.in_ok-push-in-Ok.ensures.items
    (goes_on item c.loop.values.items c.args.depth c.loop.counter c.loop.reader c.in-Ok.value
    c.further_value.new.reader _ c.loop-test.true one c.loop.invariant)

pub values_from-returns : goal.values_from-returns
values_from-returns t c =
    let item = further_value_over (value_at c.args.depth) in
    rw c.of-2.ensures
    (ap Some (is_done item c.loop.values.items c.args.depth c.loop.counter c.loop.reader _
    c.loop-test.false c.loop.invariant))

pub pairs_from-returns-in-Err-NotSpelled : goal.pairs_from-returns-in-Err-NotSpelled
pairs_from-returns-in-Err-NotSpelled t c =
    let item = further_pair_over (value_at c.args.depth) in
    let none : item c.loop.reader ≡ None = ap item (sym c.fork-ahead.ensures)
    ∙ (rw c.in-Err-NotSpelled.field-0-is at c.in-Err-NotSpelled.ensures) in
    rw c.of.ensures
    (ap Some (stops item c.loop.args.items c.args.depth c.loop.counter c.loop.reader _
    c.loop-test.true none c.loop.invariant))

pub pairs_from-loop-preserved : goal.pairs_from-loop-preserved
pairs_from-loop-preserved t c =
    let item = further_pair_over (value_at c.args.depth) in
    let one : item c.loop.reader ≡ found c.in-Ok.arg c.further_pair.new.reader =
    ap item (sym c.fork-ahead.ensures) ∙ c.in-Ok.ensures in
    rw c.in_ok-push-in-Ok.ensures.items
    (goes_on item c.loop.args.items c.args.depth c.loop.counter c.loop.reader c.in-Ok.arg
    c.further_pair.new.reader _ c.loop-test.true one c.loop.invariant)

pub pairs_from-returns : goal.pairs_from-returns
pairs_from-returns t c =
    let item = further_pair_over (value_at c.args.depth) in
    rw c.of-2.ensures
    (ap Some (is_done item c.loop.args.items c.args.depth c.loop.counter c.loop.reader _
    c.loop-test.false c.loop.invariant))
