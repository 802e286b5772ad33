-- Behind what marks nothing goes on: what may follow an expression, an annotation or a type so
-- that it ends there.
use Rattle.std.specs.Prelude.{◌≡◌, ℕ, ◌<◌, false, List, Some, None}
use Rattle.java_ast.specs.declared.expression.BinOp.{BinOp}
use Rattle.java_grammar.specs.Marks.{Mark}
use Rattle.java_grammar.specs.Reading.{front_part}
use Rattle.type_expr_parser.specs.declared.looseness.TheConstants.{LOOSEST}
use Rattle.java_grammar.specs.declared.sign.Sign.TheVariants as sign
use Rattle.type_expr_parser.specs.Reading.{comes, operator_at}
use Rattle.type_expr_parser.specs.Names.{further_word_at}
use Rattle.type_expr_parser.specs.Literals.{goes_on}
use Rattle.type_expr_parser.specs.Levels.{looseness}
use Rattle.type_expr_parser.specs.Expressions.{begins_unsigned}
use Rattle.type_expr_parser.specs.Types.{dimension_at}

-- behind an expression whose operators bind at most so loosely: no such operator, no operand, no
-- bracket and no dot; and no `?` behind one that may be a conditional
pub record Ends (k : ℕ) (left : List Mark) : Type 0 where
  pub operator : (op : BinOp) (rest : List Mark) → operator_at left ≡ Some (op, rest)
      → k < looseness op
  pub operand : begins_unsigned (front_part left) ≡ false
  pub goes : goes_on left ≡ false
  pub question : LOOSEST < k → comes sign.Question left ≡ false

-- behind a whole expression
abbrev pub conditionals : ℕ
conditionals = 11

abbrev pub ExprEnds : List Mark → Type 0
ExprEnds left = Ends conditionals left

-- behind an annotation: neither a further word of its name nor a group
pub record AnnEnds (left : List Mark) : Type 0 where
  pub word : further_word_at left ≡ None
  pub group : comes sign.LeftParenthesis left ≡ false

-- behind a type: neither type arguments, nor a further part, nor a dimension
pub record TypeEnds (left : List Mark) : Type 0 where
  pub args : comes sign.Less left ≡ false
  pub part : comes sign.Dot left ≡ false
  pub dims : (n : ℕ) → dimension_at n left ≡ None
