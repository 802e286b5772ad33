-- Multiplicative and additive operators on numbers (JLS 15.17, 15.18.2).
use Rattle.std.specs.Prelude.{ℤ, ◌+ℤ◌, ◌-ℤ◌, ◌*ℤ◌, int_rem, if◌then◌else◌, Option, Some, None, Err}
use Rattle.std.specs.Int.{Width, w32, w64}
use Rattle.java_ast.specs.declared.expression.BinOp.{BinOp}
use Rattle.java_ast.specs.declared.expression.BinOp.TheVariants.{Star, Slash, Percent, Plus, Minus}
use Rattle.const_values.specs.declared.constant.Constant.{Constant}
use Rattle.const_values.specs.declared.constant.NoConstant.TheVariants.{NotConst}
use Rattle.const_values.specs.declared.promotion.Pair.{Pair}
use Rattle.const_values.specs.declared.promotion.Pair.TheVariants.{Ints, Longs}
use Rattle.const_values.specs.Numbers.{wrapped, quotient, is_zero}
use Rattle.const_values.specs.Outcome.{Outcome, int_or_none, long_or_none}
use Rattle.const_values.specs.Promotion.{promoted_pair}

-- of two numbers of the width. The remainder has the dividend's sign, and (a / b) * b + (a % b) is
-- a (JLS 15.17.3).
abbrev pub arithmetic_at : Width → BinOp → ℤ → ℤ → Option ℤ
arithmetic_at w Star a b = Some (wrapped w (a *ℤ b))
arithmetic_at w Slash a b = if is_zero b then None else Some (wrapped w (quotient a b))
arithmetic_at w Percent a b = if is_zero b then None else Some (int_rem a b)
arithmetic_at w Plus a b = Some (wrapped w (a +ℤ b))
arithmetic_at w Minus a b = Some (wrapped w (a -ℤ b))
arithmetic_at w _ a b = None

abbrev pub arithmetic_pair : BinOp → Option Pair → Outcome
arithmetic_pair op (Some (Ints a b)) = int_or_none (arithmetic_at w32 op a b)
arithmetic_pair op (Some (Longs a b)) = long_or_none (arithmetic_at w64 op a b)
arithmetic_pair op None = Err NotConst

abbrev pub arithmetic : BinOp → Constant → Constant → Outcome
arithmetic op a b = arithmetic_pair op (promoted_pair a b)
