-- What the value of an option asks for. The value is split at its first mark and not at a later
-- one, and each part has to have its form.
use Rattle.std.specs.Prelude.{ℕ, ◌==◌, nat_lt, List, length, Option, Some, None, option_map}
use Rattle.std.specs.Prelude.{option_and_then, if◌then◌else◌}
use Rattle.std.specs.List.{position_or_len, before_first, after_first}
use Rattle.questions.specs.declared.form.Form.{Form}
use Rattle.questions.specs.declared.form.Form.TheVariants.{ClassName, FieldName, MethodName}
use Rattle.questions.specs.declared.form.Form.TheVariants.{FieldDescriptor, MethodDescriptor}
use Rattle.questions.specs.declared.kind.Kind.{Kind}
use Rattle.questions.specs.declared.kind.Kind.TheVariants as kind
use Rattle.questions.specs.declared.query.NamedField.{NamedField}
use Rattle.questions.specs.declared.query.MemberRef.{MemberRef}
use Rattle.questions.specs.declared.query.Part.TheVariants.{Whole, FieldPart, MethodPart}
use Rattle.questions.specs.declared.query.Query.{Query}
use Rattle.questions.specs.declared.query.Query.TheVariants as query
use Rattle.questions.specs.declared.query.TheConstants.{MEMBER_MARK, DESCRIPTOR_MARK}
use Rattle.questions.specs.Forms.{formed}

-- what stands before the first of a mark, and behind it
abbrev pub split_first : ℕ → List ℕ → Option (List ℕ × List ℕ)
split_first mark text =
    if nat_lt (position_or_len (λ b. b == mark) text) (length text)
    then Some (before_first (λ b. b == mark) text, after_first (λ b. b == mark) text)
    else None

-- ---- a field by its name: N#x

abbrev pub field_named : Option (List ℕ) → Option (List ℕ) → Option NamedField
field_named None name = None
field_named (Some class) None = None
field_named (Some class) (Some name) = Some (record { class = class; name = name })

abbrev pub field_in : List ℕ × List ℕ → Option NamedField
field_in parts = field_named (formed ClassName parts.0) (formed FieldName parts.1)

abbrev pub field_of : List ℕ → Option NamedField
field_of value = option_and_then field_in (split_first MEMBER_MARK value)

-- ---- a member by its name and descriptor: N#x:D

abbrev pub member_named : Option (List ℕ) → Option (List ℕ) → Option (List ℕ)
    → Option MemberRef
member_named None name descriptor = None
member_named (Some class) None descriptor = None
member_named (Some class) (Some name) None = None
member_named (Some class) (Some name) (Some descriptor) =
    Some (record { class = class; name = name; descriptor = descriptor })

abbrev pub described_by : Form → Form → List ℕ → List ℕ × List ℕ → Option MemberRef
described_by name descriptor class parts =
    member_named (formed ClassName class) (formed name parts.0) (formed descriptor parts.1)

-- the class before the first #, and behind that what stands before the first : and behind it
abbrev pub member_in : Form → Form → List ℕ × List ℕ → Option MemberRef
member_in name descriptor parts =
    option_and_then (described_by name descriptor parts.0) (split_first DESCRIPTOR_MARK parts.1)

abbrev pub member_of : Form → Form → List ℕ → Option MemberRef
member_of name descriptor value =
    option_and_then (member_in name descriptor) (split_first MEMBER_MARK value)

abbrev pub described_field : List ℕ → Option MemberRef
described_field value = member_of FieldName FieldDescriptor value

abbrev pub method_of : List ℕ → Option MemberRef
method_of value = member_of MethodName MethodDescriptor value

-- ---- annotations: of a class N, a field N#x, or a method N#m:D

abbrev pub of_class : List ℕ → Query
of_class class = query.Annotations class Whole

abbrev pub of_field : NamedField → Query
of_field field = query.Annotations field.class (FieldPart field.name)

abbrev pub of_method : MemberRef → Query
of_method method = query.Annotations method.class (MethodPart method.name method.descriptor)

-- what is behind the first # may have a :
abbrev pub of_member : List ℕ → Option (List ℕ × List ℕ) → Option Query
of_member value None = option_map of_field (field_of value)
of_member value (Some described) = option_map of_method (method_of value)

abbrev pub of_part : List ℕ → Option (List ℕ × List ℕ) → Option Query
of_part value None = option_map of_class (formed ClassName value)
of_part value (Some parts) = of_member value (split_first DESCRIPTOR_MARK parts.1)

abbrev pub annotations_of : List ℕ → Option Query
annotations_of value = of_part value (split_first MEMBER_MARK value)

-- ---- all kinds

-- what a value asks for, where it has the form that its kind needs
abbrev pub query_of : Kind → List ℕ → Option Query
query_of kind.Type value = option_map (λ class. query.Type class) (formed ClassName value)
query_of kind.Supers value = option_map (λ class. query.Supers class) (formed ClassName value)
query_of kind.Field value = option_map (λ field. query.Field field) (described_field value)
query_of kind.Method value = option_map (λ method. query.Method method) (method_of value)
query_of kind.InterfaceMethod value =
    option_map (λ method. query.InterfaceMethod method) (method_of value)
query_of kind.Constant value = option_map (λ field. query.Constant field) (field_of value)
query_of kind.Annotations value = annotations_of value
