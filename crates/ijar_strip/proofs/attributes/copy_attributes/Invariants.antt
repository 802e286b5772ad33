use Rattle.std.proofs.Common.{◌≡◌, map, take}
use Rattle.std.specs.List.{flat_map}
use Rattle.class_desc.specs.declared.class.ClassDesc.{ClassDesc}
use Rattle.class_views.specs.Strip.{strip_attribute}
use Rattle.ijar_strip.specs.Marks.{attribute_marks}
use Rattle.ijar_strip.proofs.attributes.copy_attributes.Given as goal

abbrev pub invariant-loop-index : goal.invariant-loop-index
invariant-loop-index l = (d : ClassDesc) → l.marks ≡ map (attribute_marks d) l.attributes →
    l.attrs.items ≡ flat_map (strip_attribute d) (take l.index l.attributes)
