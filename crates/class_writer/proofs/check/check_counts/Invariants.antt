use Rattle.std.proofs.Common.{◌≡◌, drop, map}
use Rattle.class_writer.specs.Refusal.{first_refusal, item_refusal}
use Rattle.class_writer.specs.Seen.{item_seen}
use Rattle.class_writer.proofs.check.check_counts.Given as goal

-- those that were gone over are not refused
abbrev pub invariant-loop-item : goal.invariant-loop-item
invariant-loop-item l =
    first_refusal item_refusal (map item_seen l.items)
    ≡ first_refusal item_refusal (map item_seen (drop l.item-index l.items))
