use Rattle.std.proofs.Common.{◌+◌, ◌-◌, length}
use Rattle.reachability.specs.Search.{unmarked}
use Rattle.reachability.proofs.Searched.{Searching}
use Rattle.reachability.proofs.search.reached.Given as goal

abbrev pub invariant-loop-at : goal.invariant-loop-at
invariant-loop-at l = Searching l.graph l.begin l.search l.at

-- numbers that are not found yet, and those found that are not gone over
abbrev pub decreases-loop-at : goal.decreases-loop-at
decreases-loop-at l = unmarked l.search.marks.items + (length l.search.found.items - l.at)
