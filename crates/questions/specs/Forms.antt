-- The forms of the parts of a value (JVMS 4.2, 4.3). A part is a word in UTF-8, and is looked at
-- as it stands in class files, in modified UTF-8 (JVMS 4.4.7).
use Rattle.std.specs.Prelude.{ℕ, nat_le, Bool, false, List, Option, Some, None, if◌then◌else◌}
use Rattle.std.specs.Option.{option_map_or}
use Rattle.java_names.specs.Names.{is_class_name, is_field_name, is_method_name}
use Rattle.java_names.specs.Paths.{name_of_path}
use Rattle.descriptor_scan.specs.Forms.{is_field_descriptor, parameter_slots}
use Rattle.questions.specs.declared.form.TheConstants.{MOST_SLOTS}
use Rattle.questions.specs.declared.form.Form.{Form}
use Rattle.questions.specs.declared.form.Form.TheVariants as form

-- the parameters take few slots, without that of this (JVMS 4.3.3)
abbrev pub is_method_descriptor : List ℕ → Bool
is_method_descriptor text =
    option_map_or (λ slots. nat_le slots MOST_SLOTS) (parameter_slots text) false

abbrev pub has_form : Form → List ℕ → Bool
has_form form.ClassName text = is_class_name text
has_form form.FieldName text = is_field_name text
has_form form.MethodName text = is_method_name text
has_form form.FieldDescriptor text = is_field_descriptor text
has_form form.MethodDescriptor text = is_method_descriptor text

abbrev pub where_formed : Form → List ℕ → Option (List ℕ)
where_formed needed text = if has_form needed text then Some text else None

-- the part in modified UTF-8, where that has the form
abbrev pub formed : Form → List ℕ → Option (List ℕ)
formed needed part = where_formed needed (name_of_path part)
