use Rattle.std.proofs.Common.{◌≡◌, map, take}
use Rattle.class_views.specs.Strip.{stays_field}
use Rattle.ijar_strip.proofs.members.field_marks.Given as goal

abbrev pub invariant-loop-field : goal.invariant-loop-field
invariant-loop-field l = l.marks.items ≡ map stays_field (take l.field-index l.fields)
