use Rattle.std.proofs.Common.{◌∷◌, length, take}
use Rattle.std.specs.List.{flat_map}
use Rattle.class_desc.specs.Layout.{ParameterCount, annotation_list}
use Rattle.class_writer.specs.Writing.{Puts}
use Rattle.class_writer.proofs.items.Items.annotations_of_parameters.Given as goal

abbrev pub invariant-loop-list : goal.invariant-loop-list
invariant-loop-list l =
    Puts (ParameterCount (length l.lists) ∷ flat_map annotation_list (take l.list-index l.lists))
    l.fn.self l.self
