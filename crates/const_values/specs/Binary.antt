-- Binary operators (JLS 15.17 to 15.24).
use Rattle.std.specs.Prelude.{Bool, true, false, ◌||◌, if◌then◌else◌}
use Rattle.java_ast.specs.declared.expression.BinOp.{BinOp}
use Rattle.java_ast.specs.declared.expression.BinOp.TheVariants.{Star, Slash, Percent, Plus, Minus}
use Rattle.java_ast.specs.declared.expression.BinOp.TheVariants.{ShiftLeft, ShiftRight}
use Rattle.java_ast.specs.declared.expression.BinOp.TheVariants.{ShiftRightUnsigned}
use Rattle.java_ast.specs.declared.expression.BinOp.TheVariants.{Less, LessEqual, Greater}
use Rattle.java_ast.specs.declared.expression.BinOp.TheVariants.{GreaterEqual, Equal, NotEqual}
use Rattle.java_ast.specs.declared.expression.BinOp.TheVariants.{And}
use Rattle.java_ast.specs.declared.expression.BinOp.TheVariants.{Xor, Or, AndAnd, OrOr}
use Rattle.const_values.specs.declared.constant.Constant.{Constant}
use Rattle.const_values.specs.declared.constant.Constant.TheVariants.{Str}
use Rattle.const_values.specs.Arithmetic.{arithmetic}
use Rattle.const_values.specs.Bitwise.{bitwise, conditional_logic}
use Rattle.const_values.specs.Comparison.{ordering, equality}
use Rattle.const_values.specs.Concatenation.{concatenation}
use Rattle.const_values.specs.Outcome.{Outcome, with_two}
use Rattle.const_values.specs.Shift.{shift}

abbrev pub is_text : Constant → Bool
is_text (Str text) = true
is_text _ = false

-- with a text on one side a sum is a text (JLS 15.18)
abbrev pub sum : Constant → Constant → Outcome
sum a b = if is_text a || is_text b then concatenation a b else arithmetic Plus a b

abbrev pub binary_constants : BinOp → Constant → Constant → Outcome
binary_constants Star a b = arithmetic Star a b
binary_constants Slash a b = arithmetic Slash a b
binary_constants Percent a b = arithmetic Percent a b
binary_constants Plus a b = sum a b
binary_constants Minus a b = arithmetic Minus a b
binary_constants ShiftLeft a b = shift ShiftLeft a b
binary_constants ShiftRight a b = shift ShiftRight a b
binary_constants ShiftRightUnsigned a b = shift ShiftRightUnsigned a b
binary_constants Less a b = ordering Less a b
binary_constants LessEqual a b = ordering LessEqual a b
binary_constants Greater a b = ordering Greater a b
binary_constants GreaterEqual a b = ordering GreaterEqual a b
binary_constants Equal a b = equality Equal a b
binary_constants NotEqual a b = equality NotEqual a b
binary_constants And a b = bitwise And a b
binary_constants Xor a b = bitwise Xor a b
binary_constants Or a b = bitwise Or a b
binary_constants AndAnd a b = conditional_logic AndAnd a b
binary_constants OrOr a b = conditional_logic OrOr a b

abbrev pub binary : BinOp → Outcome → Outcome → Outcome
binary op a b = with_two (binary_constants op) a b
