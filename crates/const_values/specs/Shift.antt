-- Shift operators (JLS 15.19).
use Rattle.std.specs.Prelude.{ℕ, ◌^◌, ◌/◌, ℤ, pos, ◌*ℤ◌, Option, Some, None, Err}
use Rattle.std.specs.Int.{Width, w32, w64, cast_unsigned, cast_signed}
use mir.Val.{bits}
use Rattle.java_ast.specs.declared.expression.BinOp.{BinOp}
use Rattle.java_ast.specs.declared.expression.BinOp.TheVariants.{ShiftLeft, ShiftRight}
use Rattle.java_ast.specs.declared.expression.BinOp.TheVariants.{ShiftRightUnsigned}
use Rattle.const_values.specs.declared.constant.Constant.{Constant}
use Rattle.const_values.specs.declared.constant.NoConstant.TheVariants.{NotConst}
use Rattle.const_values.specs.declared.promotion.Promoted.{Promoted}
use Rattle.const_values.specs.declared.promotion.Promoted.TheVariants.{Int, Long}
use Rattle.const_values.specs.Numbers.{residue, wrapped, floor_quotient}
use Rattle.const_values.specs.Outcome.{Outcome, int_or_none, long_or_none}
use Rattle.const_values.specs.Promotion.{promoted, number_of}

-- of the count the lowest five bits at an int, and six at a long
abbrev pub distance : Width → ℤ → ℕ
distance w count = residue count (bits w)

-- a product with a power of two, the quotient by one rounded down, and that of the number's bits
-- read without a sign
abbrev pub shift_at : Width → BinOp → ℤ → ℤ → Option ℤ
shift_at w ShiftLeft n count = Some (wrapped w (n *ℤ pos (2 ^ distance w count)))
shift_at w ShiftRight n count = Some (floor_quotient n (2 ^ distance w count))
shift_at w ShiftRightUnsigned n count =
    Some (cast_signed w (cast_unsigned w n / 2 ^ distance w count))
shift_at w _ n count = None

abbrev pub shift_promoted : BinOp → Option Promoted → Option ℤ → Outcome
shift_promoted op (Some (Int n)) (Some count) = int_or_none (shift_at w32 op n count)
shift_promoted op (Some (Long n)) (Some count) = long_or_none (shift_at w64 op n count)
shift_promoted op _ _ = Err NotConst

-- each operand is promoted by itself
abbrev pub shift : BinOp → Constant → Constant → Outcome
shift op a b = shift_promoted op (promoted a) (number_of b)
