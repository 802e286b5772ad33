-- Unary operators (JLS 15.15.3 to 15.15.6).
use Rattle.std.specs.Prelude.{ℤ, pos, neg_ℤ, ◌-ℤ◌, not, Option, Some, None, Ok, Err}
use Rattle.std.specs.Int.{Width, w32, w64}
use Rattle.java_ast.specs.declared.expression.UnOp.{UnOp}
use Rattle.java_ast.specs.declared.expression.UnOp.TheVariants.{Plus, Minus, Complement, Not}
use Rattle.const_values.specs.declared.constant.Constant.{Constant}
use Rattle.const_values.specs.declared.constant.Constant.TheVariants.{Boolean}
use Rattle.const_values.specs.declared.constant.NoConstant.TheVariants.{NotConst}
use Rattle.const_values.specs.declared.promotion.Promoted.{Promoted}
use Rattle.const_values.specs.declared.promotion.Promoted.TheVariants.{Int, Long}
use Rattle.const_values.specs.Numbers.{wrapped}
use Rattle.const_values.specs.Outcome.{Outcome, with_one, int_or_none, long_or_none}
use Rattle.const_values.specs.Promotion.{promoted}

-- of a number of the width; ~x is -x - 1 (JLS 15.15.5)
abbrev pub unary_number : Width → UnOp → ℤ → Option ℤ
unary_number w Plus n = Some n
unary_number w Minus n = Some (wrapped w (neg_ℤ n))
unary_number w Complement n = Some (neg_ℤ n -ℤ pos 1)
unary_number w Not n = None

abbrev pub unary_promoted : UnOp → Option Promoted → Outcome
unary_promoted op (Some (Int n)) = int_or_none (unary_number w32 op n)
unary_promoted op (Some (Long n)) = long_or_none (unary_number w64 op n)
unary_promoted op None = Err NotConst

abbrev pub unary_constant : UnOp → Constant → Outcome
unary_constant Not (Boolean b) = Ok (Boolean (not b))
unary_constant op a = unary_promoted op (promoted a)

abbrev pub unary : UnOp → Outcome → Outcome
unary op a = with_one (unary_constant op) a
