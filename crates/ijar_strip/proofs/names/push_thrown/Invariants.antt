use Rattle.std.proofs.Common.{◌≡◌, ◌++◌, [], take}
use Rattle.std.specs.Prelude.{unwrap_or}
use Rattle.std.specs.List.{flat_map}
use Rattle.class_desc.specs.declared.attribute.Attr.{out-Attr}
use Rattle.class_views.specs.View.{thrown_in}
use Rattle.ijar_strip.proofs.names.push_thrown.Given as goal

abbrev pub invariant-loop-attribute : goal.invariant-loop-attribute
invariant-loop-attribute l = l.places ≡ l.initial.places
    ++ flat_map (λ a. unwrap_or (thrown_in (out-Attr a)) []) (take l.attribute-index l.attributes)
