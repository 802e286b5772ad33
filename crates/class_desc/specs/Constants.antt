-- Constants in class files (JVMS 4.4.3 to 4.4.5, 4.7.2, 4.7.16.1).
use Rattle.std.specs.Prelude.{ℕ, ◌==◌, List, [], ◌∷◌, find, Option, Some, None, option_map}
use Rattle.std.specs.Prelude.{if◌then◌else◌}
use Rattle.std.specs.Int.{w32, w64, cast_signed}
use Rattle.java_names.specs.Names.{is_text}
use Rattle.class_desc.specs.declared.constant_kind.ConstantKind.{ConstantKind}
use Rattle.class_desc.specs.declared.constant_kind.ConstantKind.TheVariants as kind
use Rattle.class_desc.specs.declared.constant_kind.NumberKind.{NumberKind}
use Rattle.class_desc.specs.declared.constant_kind.NumberKind.TheVariants as number
use Rattle.class_desc.specs.declared.constant_kind.TheConstants.{NUMBER_LETTERS}
use Rattle.class_desc.specs.declared.constant_kind.TheConstants.{STRING_DESCRIPTOR}
use Rattle.class_desc.specs.declared.element_tag.TheConstants.{TEXT}
use Rattle.class_desc.specs.declared.value.Value.{Value}
use Rattle.class_desc.specs.declared.value.Value.TheVariants as value
use Rattle.class_desc.specs.Pool as pool
use Rattle.class_desc.specs.Pool.{Entry}

-- the entry of a number of these bits (JVMS 4.4.4, 4.4.5)
abbrev pub number_entry : NumberKind → ℕ → Entry
number_entry number.Integer bits = pool.Integer bits
number_entry number.Float bits = pool.Float bits
number_entry number.Long bits = pool.Long bits
number_entry number.Double bits = pool.Double bits

-- what the bits stand for: those of an int and of a long in two's complement
abbrev pub number_value : NumberKind → ℕ → Value
number_value number.Integer bits = value.Integer (cast_signed w32 bits)
number_value number.Float bits = value.Raw32 bits
number_value number.Long bits = value.Long (cast_signed w64 bits)
number_value number.Double bits = value.Raw64 bits

-- the number of a primitive type of this letter
abbrev pub number_of_letter : ℕ → Option ConstantKind
number_of_letter letter =
    option_map (λ row. kind.Number row.1) (find (λ row. row.0 == letter) NUMBER_LETTERS)

-- the constant of a field of this descriptor (JVMS table 4.7.2-A)
abbrev pub field_constant : List ℕ → Option ConstantKind
field_constant (letter ∷ []) = number_of_letter letter
field_constant descriptor =
    if is_text descriptor STRING_DESCRIPTOR.now then Some kind.Text else None

-- the constant under this tag (JVMS table 4.7.16.1-A)
abbrev pub element_constant : ℕ → Option ConstantKind
element_constant tag = if tag == TEXT then Some kind.Text else number_of_letter tag
