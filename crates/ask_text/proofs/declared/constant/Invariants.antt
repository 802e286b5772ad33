use Rattle.std.proofs.Common.{◌≡◌, drop, map}
use Rattle.class_desc.specs.declared.attribute.Attr.{out-Attr}
use Rattle.class_views.specs.View.{constant_in, first_held}
use Rattle.ask_text.proofs.declared.constant.Given as goal

-- what was gone over holds none
abbrev pub invariant-loop-attribute : goal.invariant-loop-attribute
invariant-loop-attribute l =
    first_held constant_in (map out-Attr (drop l.attribute-index l.attributes))
    ≡ first_held constant_in (map out-Attr l.attributes)
