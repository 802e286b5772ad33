-- Casts (JLS 5.1.2, 5.1.3, 5.5, 15.16), and the conversion to a field's type (JLS 5.2).
use Rattle.std.specs.Prelude.{◌^◌, ℤ, pos, neg_ℤ, if◌then◌else◌, Option, Some, None, option_map}
use Rattle.std.specs.Prelude.{option_and_then, Ok, Err}
use Rattle.std.specs.Int.{w8, w16, w32}
use Rattle.java_ast.specs.declared.types.Primitive.{Primitive}
use Rattle.java_ast.specs.declared.types.Primitive.TheVariants as type
use Rattle.const_values.specs.declared.constant.Constant.{Constant}
use Rattle.const_values.specs.declared.constant.Constant.TheVariants.{Boolean, Byte, Short, Char}
use Rattle.const_values.specs.declared.constant.Constant.TheVariants.{Int, Long, Str}
use Rattle.const_values.specs.declared.constant.ConstantType.{ConstantType}
use Rattle.const_values.specs.declared.constant.ConstantType.TheVariants as field
use Rattle.const_values.specs.declared.constant.NoConstant.TheVariants.{NotConst, Unsupported}
use Rattle.const_values.specs.declared.promotion.Promoted.{Promoted}
use Rattle.const_values.specs.declared.promotion.Promoted.TheVariants as promoted
use Rattle.const_values.specs.Numbers.{residue, wrapped, is_within}
use Rattle.const_values.specs.Outcome.{Outcome, with_one}
use Rattle.const_values.specs.Promotion.{promoted as promoted_constant, number_of}

-- the number of the type that has the same lowest bits; a char has no sign
abbrev pub narrowed : Primitive → ℤ → Outcome
narrowed type.Boolean n = Err NotConst
narrowed type.Byte n = Ok (Byte (wrapped w8 n))
narrowed type.Short n = Ok (Short (wrapped w16 n))
narrowed type.Char n = Ok (Char (residue n (2 ^ 16)))
narrowed type.Int n = Ok (Int (wrapped w32 n))
narrowed type.Long n = Ok (Long n)
narrowed type.Float n = Err Unsupported
narrowed type.Double n = Err Unsupported

abbrev pub cast_number : Primitive → Option ℤ → Outcome
cast_number ty (Some n) = narrowed ty n
cast_number ty None = Err NotConst

-- a boolean is cast to boolean alone, and a text to no primitive type
abbrev pub cast_constant : Primitive → Constant → Outcome
cast_constant type.Boolean (Boolean b) = Ok (Boolean b)
cast_constant ty a = cast_number ty (number_of a)

abbrev pub cast : Primitive → Outcome → Outcome
cast ty a = with_one (cast_constant ty) a

-- the number as one of the type, which for byte, short and char has to fit
abbrev pub fitting_int : Primitive → ℤ → Option Constant
fitting_int type.Byte n =
    if is_within (neg_ℤ (pos (2 ^ 7))) (pos (2 ^ 7)) n then Some (Byte n) else None
fitting_int type.Short n =
    if is_within (neg_ℤ (pos (2 ^ 15))) (pos (2 ^ 15)) n then Some (Short n) else None
fitting_int type.Char n =
    if is_within (pos 0) (pos (2 ^ 16)) n then Some (Char (residue n (2 ^ 16))) else None
fitting_int type.Int n = Some (Int n)
fitting_int type.Long n = Some (Long n)
fitting_int _ n = None

-- a long is none of the narrower types, even where its number fits
abbrev pub fitting_number : Primitive → Promoted → Option Constant
fitting_number ty (promoted.Int n) = fitting_int ty n
fitting_number type.Long (promoted.Long n) = Some (Long n)
fitting_number _ (promoted.Long n) = None

-- the constant as one of the type: the same type, a wider one, or one that the number fits
abbrev pub fitting : Primitive → Constant → Option Constant
fitting type.Boolean (Boolean b) = Some (Boolean b)
fitting ty a = option_and_then (fitting_number ty) (promoted_constant a)

abbrev pub if_text : Constant → Option Outcome
if_text (Str text) = Some (Ok (Str text))
if_text _ = None

-- none where the constant doesn't fit
abbrev pub converted_constant : Constant → ConstantType → Option Outcome
converted_constant a field.Text = if_text a
converted_constant a (field.Primitive type.Float) = Some (Err Unsupported)
converted_constant a (field.Primitive type.Double) = Some (Err Unsupported)
converted_constant a (field.Primitive ty) = option_map Ok (fitting ty a)

abbrev pub converted : Outcome → ConstantType → Option Outcome
converted (Ok a) ty = converted_constant a ty
converted (Err reason) ty = Some (Err reason)
