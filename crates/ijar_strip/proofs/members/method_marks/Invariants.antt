use Rattle.std.proofs.Common.{◌≡◌, map, take}
use Rattle.class_views.specs.Strip.{stays_method}
use Rattle.ijar_strip.proofs.members.method_marks.Given as goal

abbrev pub invariant-loop-method : goal.invariant-loop-method
invariant-loop-method l = l.marks.items ≡ map stays_method (take l.method-index l.methods)
