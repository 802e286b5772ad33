-- The forms of texts as functions of the text, and what is told of a text that hasn't its form.
use Rattle.std.specs.Prelude.{ℕ, ◌+◌, ◌||◌, Bool, false, nat_le, List, codes, Option, Some}
use Rattle.std.specs.Prelude.{None, if◌then◌else◌}
use Rattle.java_names.specs.Names.{is_text, is_class_name, is_field_name, is_method_name}
use Rattle.descriptor_scan.specs.Forms.{is_field_descriptor, parameter_slots}
use Rattle.signature_scan.specs.declared.verdict.Verdict.{Verdict}
use Rattle.signature_scan.specs.declared.verdict.Verdict.TheVariants as verdict
use Rattle.signature_scan.specs.Scanned.{verdict_of}
use Rattle.class_desc.specs.Forms.{this_slots, signature_place}
use Rattle.pool_reader.specs.declared.fault.ClassKind.{ClassKind}
use Rattle.pool_reader.specs.declared.fault.ClassKind.TheVariants.{F7, F12}
use Rattle.attribute_reader.specs.declared.forms.Form.{Form}
use Rattle.attribute_reader.specs.declared.forms.Form.TheVariants as form

abbrev pub are_few : ℕ → Option ℕ → Bool
are_few flags None = false
are_few flags (Some slots) = nat_le (slots + this_slots flags) 255

-- the descriptor of a method of these flags: at most 255 slots, that of this among them (JVMS
-- 4.3.3)
abbrev pub is_method_descriptor : ℕ → List ℕ → Bool
is_method_descriptor flags text = are_few flags (parameter_slots text)

-- the descriptor of a field, or void (JVMS 4.3.3)
abbrev pub is_return_descriptor : List ℕ → Bool
is_return_descriptor text = is_field_descriptor text || is_text text (codes "V")

abbrev pub unless : Bool → ClassKind → Option ClassKind
unless holds kind = if holds then None else Some kind

-- a text that is no signature is told before one that is nested too deep
abbrev pub verdict_fault : Verdict → Option ClassKind
verdict_fault verdict.Fine = None
verdict_fault (verdict.BadText at) = Some F7
verdict_fault (verdict.TooDeep at) = Some F12

-- what is told of a text where this form is asked for
unfoldable pub form_fault : Form → List ℕ → Option ClassKind
form_fault form.AnyText text = None
form_fault form.ClassName text = unless (is_class_name text) F7
form_fault form.FieldName text = unless (is_field_name text) F7
form_fault form.MethodName text = unless (is_method_name text) F7
form_fault form.FieldDescriptor text = unless (is_field_descriptor text) F7
form_fault form.ReturnDescriptor text = unless (is_return_descriptor text) F7
form_fault (form.MethodDescriptor flags) text = unless (is_method_descriptor flags text) F7
form_fault (form.Signature place) text = verdict_fault (verdict_of (signature_place place) text)
