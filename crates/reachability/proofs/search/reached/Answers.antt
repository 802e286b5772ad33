use Rattle.std.proofs.Common.{◌≡◌, ◌<◌, ◌≤◌, ap, length, arith}
use Rattle.reachability.proofs.Searched.{found_in_range, searching_more, searched}
use Rattle.reachability.proofs.search.reached.Goals as goal

pub row-requires : goal.row-requires
row-requires c =
    let level : length c.as_slice.result.now ≡ length c.loop-at.search.found.items =
    ap length c.as_slice.ensures.value in
    let few : c.loop-at.at < length c.loop-at.search.found.items =
    omega (arith, level, c.loop-at-test.true) in
    found_in_range c.args.graph.now c.args.begin.now c.loop-at.search c.loop-at.at
    c.index-number.result.now c.loop-at.invariant few c.index-number.ensures

pub loop-at-preserved : goal.loop-at-preserved
loop-at-preserved c =
    let level : length c.as_slice.result.now ≡ length c.loop-at.search.found.items =
    ap length c.as_slice.ensures.value in
    let few : c.loop-at.at < length c.loop-at.search.found.items =
    omega (arith, level, c.loop-at-test.true) in
    searching_more c.args.graph.now c.args.begin.now c.loop-at.search
    c.mark_each-in-loop-at.new.self c.loop-at.at c.index-number.result.now c.loop-at.invariant
    few c.index-number.ensures
    (rw c.row.ensures at c.in_ok-mark_each-2.ensures)

pub returns-clause-exact : goal.returns-clause-exact
returns-clause-exact c = λ n few.
    let level : length c.as_slice.result.now ≡ length c.loop-at.search.found.items =
    ap length c.as_slice.ensures.value in
    let over : length c.loop-at.search.found.items ≤ c.loop-at.at =
    omega (arith, level, c.loop-at-test.false) in (
      c.loop-at.invariant.sound n,
      searched c.args.graph.now c.args.begin.now c.loop-at.search
          c.loop-at.at c.loop-at.invariant over n few,
    )
