-- Bitwise and logical operators (JLS 15.22 to 15.24).
use Rattle.std.specs.Prelude.{ℤ, Bool, not, ◌&&◌, ◌||◌, Option, Some, None, Err}
use Rattle.std.specs.Int.{Width, w32, w64, int_bit_and, int_bit_or, int_bit_xor}
use mathlib.Core.Bool.{beq}
use Rattle.java_ast.specs.declared.expression.BinOp.{BinOp}
use Rattle.java_ast.specs.declared.expression.BinOp.TheVariants.{And, Xor, Or, AndAnd, OrOr}
use Rattle.const_values.specs.declared.constant.Constant.{Constant}
use Rattle.const_values.specs.declared.constant.Constant.TheVariants.{Boolean}
use Rattle.const_values.specs.declared.constant.NoConstant.TheVariants.{NotConst}
use Rattle.const_values.specs.declared.promotion.Pair.{Pair}
use Rattle.const_values.specs.declared.promotion.Pair.TheVariants.{Ints, Longs}
use Rattle.const_values.specs.Outcome.{Outcome, boolean_or_none, int_or_none, long_or_none}
use Rattle.const_values.specs.Promotion.{promoted_pair}

-- of two booleans
abbrev pub logic : BinOp → Bool → Bool → Option Bool
logic And a b = Some (a && b)
logic Xor a b = Some (not (beq a b))
logic Or a b = Some (a || b)
logic AndAnd a b = Some (a && b)
logic OrOr a b = Some (a || b)
logic _ a b = None

-- of two numbers of the width, bit by bit, a negative one in two's complement
abbrev pub bitwise_at : Width → BinOp → ℤ → ℤ → Option ℤ
bitwise_at w And a b = Some (int_bit_and w a b)
bitwise_at w Xor a b = Some (int_bit_xor w a b)
bitwise_at w Or a b = Some (int_bit_or w a b)
bitwise_at w _ a b = None

abbrev pub bitwise_pair : BinOp → Option Pair → Outcome
bitwise_pair op (Some (Ints a b)) = int_or_none (bitwise_at w32 op a b)
bitwise_pair op (Some (Longs a b)) = long_or_none (bitwise_at w64 op a b)
bitwise_pair op None = Err NotConst

-- & ^ |
abbrev pub bitwise : BinOp → Constant → Constant → Outcome
bitwise op (Boolean a) (Boolean b) = boolean_or_none (logic op a b)
bitwise op a b = bitwise_pair op (promoted_pair a b)

-- && ||
abbrev pub conditional_logic : BinOp → Constant → Constant → Outcome
conditional_logic op (Boolean a) (Boolean b) = boolean_or_none (logic op a b)
conditional_logic op a b = Err NotConst
