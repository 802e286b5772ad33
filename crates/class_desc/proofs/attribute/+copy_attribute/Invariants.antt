use Rattle.std.proofs.Common.{◌≡◌, take}
use Rattle.class_desc.proofs.attribute.+copy_attribute.Given as goal

abbrev pub invariant-copy_components-loop-component : goal.invariant-copy_components-loop-component
invariant-copy_components-loop-component l = l.copy.items ≡ take l.component-index l.components

abbrev pub invariant-ComponentDesc::copy-loop-attribute :
    goal.invariant-ComponentDesc::copy-loop-attribute
invariant-ComponentDesc::copy-loop-attribute l = l.attrs.items
    ≡ take l.attribute-index l.attributes
