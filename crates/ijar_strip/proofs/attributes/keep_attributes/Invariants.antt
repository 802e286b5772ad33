use Rattle.std.proofs.Common.{◌≡◌, ◌≤◌, length, map, take, drop}
use Rattle.std.specs.List.{flat_map}
use Rattle.std.specs.Vec.Iter.{into_iter_items}
use Rattle.class_desc.specs.declared.class.ClassDesc.{ClassDesc}
use Rattle.class_views.specs.Strip.{strip_attribute}
use Rattle.ijar_strip.specs.Marks.{attribute_marks}
use Rattle.ijar_strip.proofs.attributes.keep_attributes.Given as goal

abbrev pub invariant-loop-attribute : goal.invariant-loop-attribute
invariant-loop-attribute l =
    let all = into_iter_items l.initial.attribute-iterator in
    record {
      within : l.index ≤ length all;
      rest : into_iter_items l.attribute-iterator ≡ drop l.index all;
      done : (d : ClassDesc) → l.marks ≡ map (attribute_marks d) all → l.attrs.items
          ≡ flat_map (strip_attribute d) (take l.index all);
    }
