-- Comparisons (JLS 15.20.1, 15.21).
use Rattle.std.specs.Prelude.{ℤ, Bool, not, nat_eq, int_lt, int_le, Option, Some, None, Ok, Err}
use Rattle.std.specs.Ordering.{int_eq}
use mathlib.Core.Bool.{beq}
use lib.Pointwise.{pointwise}
use Rattle.java_ast.specs.declared.expression.BinOp.{BinOp}
use Rattle.java_ast.specs.declared.expression.BinOp.TheVariants.{Less, LessEqual, Greater}
use Rattle.java_ast.specs.declared.expression.BinOp.TheVariants.{GreaterEqual, Equal, NotEqual}
use Rattle.const_values.specs.declared.constant.Constant.{Constant}
use Rattle.const_values.specs.declared.constant.Constant.TheVariants.{Boolean, Str}
use Rattle.const_values.specs.declared.constant.NoConstant.TheVariants.{NotConst}
use Rattle.const_values.specs.Outcome.{Outcome, boolean_or_none}
use Rattle.const_values.specs.Promotion.{number_of}

abbrev pub number_ordering : BinOp → ℤ → ℤ → Option Bool
number_ordering Less a b = Some (int_lt a b)
number_ordering LessEqual a b = Some (int_le a b)
number_ordering Greater a b = Some (int_lt b a)
number_ordering GreaterEqual a b = Some (int_le b a)
number_ordering _ a b = None

abbrev pub ordering_of : BinOp → Option ℤ → Option ℤ → Outcome
ordering_of op (Some a) (Some b) = boolean_or_none (number_ordering op a b)
ordering_of op _ _ = Err NotConst

-- two numbers, which promotion doesn't change
abbrev pub ordering : BinOp → Constant → Constant → Outcome
ordering op a b = ordering_of op (number_of a) (number_of b)

abbrev pub is_same_number : Option ℤ → Option ℤ → Option Bool
is_same_number (Some a) (Some b) = Some (int_eq a b)
is_same_number _ _ = None

-- two booleans, two texts by their bytes, or two numbers
abbrev pub is_same : Constant → Constant → Option Bool
is_same (Boolean a) (Boolean b) = Some (beq a b)
is_same (Str a) (Str b) = Some (pointwise nat_eq a b)
is_same a b = is_same_number (number_of a) (number_of b)

abbrev pub equality_of : BinOp → Option Bool → Outcome
equality_of Equal (Some same) = Ok (Boolean same)
equality_of NotEqual (Some same) = Ok (Boolean (not same))
equality_of _ _ = Err NotConst

abbrev pub equality : BinOp → Constant → Constant → Outcome
equality op a b = equality_of op (is_same a b)
