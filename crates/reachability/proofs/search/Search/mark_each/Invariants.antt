use Rattle.std.proofs.Common.{take}
use Rattle.reachability.specs.Search.{Grew}
use Rattle.reachability.proofs.search.Search.mark_each.Given as goal

abbrev pub invariant-loop-number : goal.invariant-loop-number
invariant-loop-number l = Grew l.fn.self l.self (take l.number-index l.numbers)
