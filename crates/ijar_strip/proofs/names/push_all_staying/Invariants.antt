use Rattle.std.proofs.Common.{◌≡◌, ◌++◌, take}
use Rattle.std.specs.Prelude.{filter}
use Rattle.std.specs.List.{flat_map}
use Rattle.class_views.specs.Strip.{stays_method, thrown_names}
use Rattle.ijar_strip.proofs.names.push_all_staying.Given as goal

abbrev pub invariant-loop-method : goal.invariant-loop-method
invariant-loop-method l = l.places ≡ l.initial.places
    ++ flat_map thrown_names (filter stays_method (take l.method-index l.methods))
