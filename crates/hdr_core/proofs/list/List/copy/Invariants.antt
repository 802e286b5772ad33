use Rattle.std.proofs.Common.{◌≡◌, take}
use Rattle.hdr_core.proofs.list.List.copy.Given as goal

-- so far the copy has the items that were gone over
abbrev pub invariant-loop-item : goal.invariant-loop-item
invariant-loop-item g l = l.copy.items ≡ take l.item-index l.item-items
