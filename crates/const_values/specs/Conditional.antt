-- The conditional operator (JLS 15.25).
use Rattle.std.specs.Prelude.{ℤ, Bool, if◌then◌else◌, Option, Some, None, option_map, Ok, Err}
use Rattle.java_ast.specs.declared.types.Primitive.{Primitive}
use Rattle.java_ast.specs.declared.types.Primitive.TheVariants as type
use Rattle.const_values.specs.declared.constant.Constant.{Constant}
use Rattle.const_values.specs.declared.constant.Constant.TheVariants.{Boolean, Byte, Short, Char}
use Rattle.const_values.specs.declared.constant.Constant.TheVariants.{Int, Long, Str}
use Rattle.const_values.specs.declared.constant.ConstantType.{ConstantType}
use Rattle.const_values.specs.declared.constant.ConstantType.TheVariants as field
use Rattle.const_values.specs.declared.constant.NoConstant.TheVariants.{NotConst}
use Rattle.const_values.specs.declared.promotion.Pair.{Pair}
use Rattle.const_values.specs.declared.promotion.Pair.TheVariants.{Ints, Longs}
use Rattle.const_values.specs.Conversion.{cast_constant, fitting_int}
use Rattle.const_values.specs.Outcome.{Outcome, with_three}
use Rattle.const_values.specs.Promotion.{promoted_pair}

abbrev pub narrow_if_fits : Primitive → Option Constant → Primitive
narrow_if_fits narrow (Some fit) = narrow
narrow_if_fits narrow None = type.Int

-- the narrow type, where the int constant fits it
abbrev pub narrow_or_int : Primitive → ℤ → Primitive
narrow_or_int narrow n = narrow_if_fits narrow (fitting_int narrow n)

abbrev pub type_of_pair : Option Pair → Option Primitive
type_of_pair (Some (Ints a b)) = Some type.Int
type_of_pair (Some (Longs a b)) = Some type.Long
type_of_pair None = None

abbrev pub promoted_type : Constant → Constant → Option Primitive
promoted_type a b = type_of_pair (promoted_pair a b)

-- the primitive type that two constants have in common (JLS, tables 15.25-A to 15.25-E)
abbrev pub primitive_type : Constant → Constant → Option Primitive
primitive_type (Boolean a) (Boolean b) = Some type.Boolean
primitive_type (Byte a) (Byte b) = Some type.Byte
primitive_type (Byte a) (Short b) = Some type.Short
primitive_type (Byte a) (Int b) = Some (narrow_or_int type.Byte b)
primitive_type (Short a) (Byte b) = Some type.Short
primitive_type (Short a) (Short b) = Some type.Short
primitive_type (Short a) (Int b) = Some (narrow_or_int type.Short b)
primitive_type (Char a) (Char b) = Some type.Char
primitive_type (Char a) (Int b) = Some (narrow_or_int type.Char b)
primitive_type (Int a) (Byte b) = Some (narrow_or_int type.Byte a)
primitive_type (Int a) (Short b) = Some (narrow_or_int type.Short a)
primitive_type (Int a) (Char b) = Some (narrow_or_int type.Char a)
primitive_type a b = promoted_type a b

-- the type that two constants have in common
abbrev pub common_type : Constant → Constant → Option ConstantType
common_type (Str a) (Str b) = Some field.Text
common_type a b = option_map field.Primitive (primitive_type a b)

abbrev pub of_type : Option ConstantType → Constant → Outcome
of_type (Some field.Text) chosen = Ok chosen
of_type (Some (field.Primitive ty)) chosen = cast_constant ty chosen
of_type None chosen = Err NotConst

-- the chosen operand, as one of the common type
abbrev pub choice : Constant → Constant → Constant → Outcome
choice (Boolean test) a b = of_type (common_type a b) (if test then a else b)
choice _ a b = Err NotConst

abbrev pub conditional : Outcome → Outcome → Outcome → Outcome
conditional test a b = with_three choice test a b
