use Rattle.std.proofs.Common.{◌≡◌}
use Rattle.std.specs.Vec.Iter.{into_iter_items}
use Rattle.head_parser.specs.Formals.{formals_of}
use Rattle.head_parser.proofs.FormalLists.{formals_from}
use Rattle.head_parser.proofs.formal.named_formals.Given as goal

abbrev pub invariant-loop-item : goal.invariant-loop-item
invariant-loop-item l =
    formals_from l.is_first l.formals.items (into_iter_items l.item-iterator)
    ≡ formals_of (into_iter_items l.initial.item-iterator)
