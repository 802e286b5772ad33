use Rattle.std.proofs.Common.{◌≡◌, ◌++◌}
use Rattle.std.specs.List.{flat_map}
use Rattle.std.specs.Vec.Iter.{into_iter_items}
use Rattle.java_grammar.specs.Modifiers.{annotation_of}
use Rattle.head_parser.proofs.modifier.annotations.Given as goal

abbrev pub invariant-loop-item : goal.invariant-loop-item
invariant-loop-item l =
    l.anns.items ++ flat_map annotation_of (into_iter_items l.item-iterator)
    ≡ flat_map annotation_of (into_iter_items l.initial.item-iterator)
