use Rattle.std.proofs.Common.{◌≡◌, ◌++◌, take}
use Rattle.class_views.specs.Strip.{permitted_names}
use Rattle.ijar_strip.proofs.names.push_permitted.Given as goal

abbrev pub invariant-loop-attribute : goal.invariant-loop-attribute
invariant-loop-attribute l = l.places ≡ l.initial.places
    ++ permitted_names (take l.attribute-index l.attributes)
