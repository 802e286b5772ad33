use Rattle.client_view.specs.Numbers.{number_of}
use Rattle.client_view.proofs.Repeats.{row_more}
use Rattle.client_view.proofs.numbers.push_superinterfaces.Goals as goal

pub loop-name-preserved : goal.loop-name-preserved
loop-name-preserved c = λ world tells.
    row_more (number_of world) c.items-name-items.result.now c.loop-name.name-index
    c.name-item.result c.args.row.now.items c.loop-name.row.items c.push_number.new.row.items
    c.loop-name-test.true c.name-item.is (c.loop-name.invariant world tells)
    (c.in_ok-push_number.ensures world tells)
