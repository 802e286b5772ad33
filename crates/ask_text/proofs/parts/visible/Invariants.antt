use Rattle.std.proofs.Common.{◌≡◌, drop, map}
use Rattle.class_desc.specs.declared.attribute.Attr.{out-Attr}
use Rattle.class_views.specs.View.{listed, visible_in}
use Rattle.ask_text.proofs.parts.visible.Given as goal

-- what was gone over holds none
abbrev pub invariant-loop-attribute : goal.invariant-loop-attribute
invariant-loop-attribute l =
    listed visible_in (map out-Attr (drop l.attribute-index l.attributes))
    ≡ listed visible_in (map out-Attr l.attributes)
