-- Constants in class files (JVMS 4.7.2).
use Rattle.std.specs.Prelude.{ℕ, ℤ, pos, Bool, true, false, not, nat_eq, ◌==◌, List, [], ◌∷◌, find}
use Rattle.std.specs.Prelude.{if◌then◌else◌, Option, Some, None, option_map, Ok, Err}
use Rattle.class_desc.specs.declared.value.Value.{Value}
use Rattle.class_desc.specs.declared.value.Value.TheVariants as value
use Rattle.java_ast.specs.declared.types.Primitive.{Primitive}
use Rattle.java_ast.specs.declared.types.Primitive.TheVariants as type
use Rattle.const_values.specs.declared.constant.Constant.{Constant}
use Rattle.const_values.specs.declared.constant.Constant.TheVariants.{Boolean, Byte, Short, Char}
use Rattle.const_values.specs.declared.constant.Constant.TheVariants.{Int, Long, Str}
use Rattle.const_values.specs.declared.constant.ConstantType.{ConstantType}
use Rattle.const_values.specs.declared.constant.ConstantType.TheVariants.{Primitive as primitive}
use Rattle.const_values.specs.declared.constant.ConstantType.TheVariants.{Text}
use Rattle.const_values.specs.declared.constant.NoConstant.TheVariants.{NotConst, Unsupported}
use Rattle.const_values.specs.declared.class_file.TheConstants.{PRIMITIVE_DESCRIPTORS}
use Rattle.const_values.specs.declared.class_file.TheConstants.{STRING_DESCRIPTOR}
use Rattle.const_values.specs.Conversion.{fitting_int}
use Rattle.const_values.specs.Numbers.{is_zero}
use Rattle.const_values.specs.Outcome.{Outcome, text_or_too_long}
use lib.Pointwise.{pointwise}

-- booleans and the small types are Integers
abbrev pub written : Constant → Value
written (Boolean b) = value.Integer (if b then pos 1 else pos 0)
written (Byte n) = value.Integer n
written (Short n) = value.Integer n
written (Char unit) = value.Integer (pos unit)
written (Int n) = value.Integer n
written (Long n) = value.Long n
written (Str text) = value.Str text

abbrev pub primitive_of : ℕ → Option Primitive
primitive_of letter =
    option_map (λ row. row.1) (find (λ row. row.0 == letter) PRIMITIVE_DESCRIPTORS)

-- the type of a field with the descriptor (JVMS 4.3.2); none where it can't have a ConstantValue
abbrev pub type_of : List ℕ → Option ConstantType
type_of (letter ∷ []) = option_map primitive (primitive_of letter)
type_of descriptor = if pointwise nat_eq descriptor STRING_DESCRIPTOR.now then Some Text else None

abbrev pub fitted : Option Constant → Outcome
fitted (Some a) = Ok a
fitted None = Err NotConst

-- a boolean is whatever isn't 0; a number has to fit its type
abbrev pub held_int : Primitive → ℤ → Outcome
held_int type.Boolean n = Ok (Boolean (not (is_zero n)))
held_int type.Long n = Err NotConst
held_int ty n = fitted (fitting_int ty n)

-- what a field of the type holds whose ConstantValue is the value
abbrev pub held : ConstantType → Value → Outcome
held Text (value.Str text) = text_or_too_long text
held (primitive type.Float) (value.Raw32 bits) = Err Unsupported
held (primitive type.Double) (value.Raw64 bits) = Err Unsupported
held (primitive type.Long) (value.Long n) = Ok (Long n)
held (primitive ty) (value.Integer n) = held_int ty n
held _ _ = Err NotConst

abbrev pub held_if_typed : Option ConstantType → Value → Outcome
held_if_typed (Some ty) v = held ty v
held_if_typed None v = Err NotConst

abbrev pub constant_of : List ℕ → Value → Outcome
constant_of descriptor v = held_if_typed (type_of descriptor) v

-- ---- how the two go together

abbrev pub type_of_constant : Constant → ConstantType
type_of_constant (Boolean b) = primitive type.Boolean
type_of_constant (Byte n) = primitive type.Byte
type_of_constant (Short n) = primitive type.Short
type_of_constant (Char unit) = primitive type.Char
type_of_constant (Int n) = primitive type.Int
type_of_constant (Long n) = primitive type.Long
type_of_constant (Str text) = Text

-- the constant, but for a text that is too long
abbrev pub itself : Constant → Outcome
itself (Str text) = text_or_too_long text
itself a = Ok a

abbrev pub is_boolean : Constant → Bool
is_boolean (Boolean b) = true
is_boolean _ = false
