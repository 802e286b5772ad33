use Rattle.std.proofs.Common.{◌≡◌, Bool, map, take}
use Rattle.std.specs.Prelude.{filter}
use Rattle.ijar_strip.proofs.marked.copy_marked.Given as goal

abbrev pub invariant-loop-index : goal.invariant-loop-index
invariant-loop-index g l = (stays : g.row.T.Denot → Bool) → l.marks ≡ map stays l.items →
    l.kept.items ≡ filter stays (take l.index l.items)
