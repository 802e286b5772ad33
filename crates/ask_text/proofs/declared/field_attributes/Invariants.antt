use Rattle.std.proofs.Common.{◌≡◌, drop}
use Rattle.std.specs.Prelude.{find}
use Rattle.class_desc.specs.declared.class.FieldDesc.{FieldDesc}
use Rattle.java_names.specs.Names.{is_text}
use Rattle.ask_text.proofs.declared.field_attributes.Given as goal

abbrev pub invariant-loop-field : goal.invariant-loop-field
invariant-loop-field l =
    find (λ (f : FieldDesc). is_text f.name l.name) (drop l.field-index l.fields)
    ≡ find (λ (f : FieldDesc). is_text f.name l.name) l.fields
