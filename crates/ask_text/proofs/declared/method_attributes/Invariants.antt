use Rattle.std.proofs.Common.{◌≡◌, ◌&&◌, drop}
use Rattle.std.specs.Prelude.{find}
use Rattle.class_desc.specs.declared.class.MethodDesc.{MethodDesc}
use Rattle.java_names.specs.Names.{is_text}
use Rattle.ask_text.proofs.declared.method_attributes.Given as goal

abbrev pub invariant-loop-method : goal.invariant-loop-method
invariant-loop-method l =
    find (λ (m : MethodDesc). is_text m.name l.name && is_text m.descriptor l.descriptor)
    (drop l.method-index l.methods)
    ≡ find (λ (m : MethodDesc). is_text m.name l.name && is_text m.descriptor l.descriptor)
    l.methods
