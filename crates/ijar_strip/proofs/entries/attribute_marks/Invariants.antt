use Rattle.std.proofs.Common.{◌≡◌, map, take}
use Rattle.ijar_strip.specs.Marks.{attribute_marks}
use Rattle.ijar_strip.proofs.entries.attribute_marks.Given as goal

abbrev pub invariant-loop-attribute : goal.invariant-loop-attribute
invariant-loop-attribute l = l.marks.items
    ≡ map (attribute_marks l.desc) (take l.attribute-index l.attributes)
