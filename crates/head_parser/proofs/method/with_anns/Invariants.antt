use Rattle.std.proofs.Common.{◌≡◌, ◌++◌}
use Rattle.std.specs.Vec.Iter.{into_iter_items}
use Rattle.head_parser.proofs.method.with_anns.Given as goal

abbrev pub invariant-loop-ann : goal.invariant-loop-ann
invariant-loop-ann l =
    l.all.items ++ into_iter_items l.ann-iterator
    ≡ l.fn.mods.anns ++ into_iter_items l.initial.ann-iterator
