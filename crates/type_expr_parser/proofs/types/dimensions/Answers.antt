use Rattle.std.proofs.Common.{◌≡◌, sym, ap, ◌∙◌, Some, None, arith}
use Rattle.type_expr_parser.specs.Reading.{found}
use Rattle.type_expr_parser.specs.Types.{dimension_at}
use Rattle.type_expr_parser.proofs.Loops.{counts_on, count_stops, count_is_done}
use Rattle.type_expr_parser.proofs.types.dimensions.Goals as goal

pub returns-in-Err-NotSpelled : goal.returns-in-Err-NotSpelled
returns-in-Err-NotSpelled c =
    let item = dimension_at c.args.depth in
    let none : item c.loop.reader ≡ None = ap item (sym c.fork-ahead.ensures)
    ∙ (rw c.in-Err-NotSpelled.field-0-is at c.in-Err-NotSpelled.ensures) in
    ap Some (count_stops item c.loop.count c.args.depth c.loop.counter c.loop.reader _
    c.loop-test.true none c.loop.invariant.told)

pub loop-preserved : goal.loop-preserved
loop-preserved c =
    let item = dimension_at c.args.depth in
    let one : item c.loop.reader ≡ found c.in-Ok.field-0 c.dimension.new.reader =
    ap item (sym c.fork-ahead.ensures) ∙ c.in-Ok.ensures in
    record {
      few = omega arith;
      told = counts_on item c.loop.count c.args.depth c.loop.counter c.loop.reader c.in-Ok.field-0
          c.dimension.new.reader _ c.loop-test.true one c.loop.invariant.told;
    }

pub returns : goal.returns
returns c =
    let item = dimension_at c.args.depth in
    ap Some (count_is_done item c.loop.count c.args.depth c.loop.counter c.loop.reader _
    c.loop-test.false c.loop.invariant.told)
