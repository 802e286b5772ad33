use Rattle.std.proofs.Common.{◌≡◌, take}
use Rattle.std.specs.Prelude.{None}
use Rattle.class_views.specs.View.{first_attribute, inner_in}
use Rattle.ijar_strip.proofs.kept.first_entries.Given as goal

abbrev pub invariant-loop-attribute : goal.invariant-loop-attribute
invariant-loop-attribute l = first_attribute inner_in (take l.attribute-index l.attributes) ≡ None
