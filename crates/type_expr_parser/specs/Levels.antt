-- Operators by how loosely they bind.
use Rattle.std.specs.Prelude.{ℕ, Option, Some, None}
use Rattle.java_ast.specs.declared.expression.BinOp.{BinOp}
use Rattle.java_ast.specs.declared.expression.BinOp.TheVariants as binary
use Rattle.java_ast.specs.declared.expression.UnOp.{UnOp}
use Rattle.java_ast.specs.declared.expression.UnOp.TheVariants as unary
use Rattle.java_grammar.specs.declared.part.Part.{Part}
use Rattle.java_grammar.specs.declared.part.Part.TheVariants as part
use Rattle.type_expr_parser.specs.declared.looseness.TheConstants.{LOOSEST}

-- products, sums, shifts, relations, equality, `&`, `^`, `|`, `&&`, `||` (JLS 15.17 to 15.24)
abbrev pub looseness : BinOp → ℕ
looseness binary.Star = 1
looseness binary.Slash = 1
looseness binary.Percent = 1
looseness binary.Plus = 2
looseness binary.Minus = 2
looseness binary.ShiftLeft = 3
looseness binary.ShiftRight = 3
looseness binary.ShiftRightUnsigned = 3
looseness binary.Less = 4
looseness binary.LessEqual = 4
looseness binary.Greater = 4
looseness binary.GreaterEqual = 4
looseness binary.Equal = 5
looseness binary.NotEqual = 5
looseness binary.And = 6
looseness binary.Xor = 7
looseness binary.Or = 8
looseness binary.AndAnd = 9
looseness binary.OrOr = LOOSEST

-- JLS 15.15
abbrev pub prefix_of : Option Part → Option UnOp
prefix_of (Some (part.Binary binary.Plus)) = Some unary.Plus
prefix_of (Some (part.Binary binary.Minus)) = Some unary.Minus
prefix_of (Some (part.Unary unary.Complement)) = Some unary.Complement
prefix_of (Some (part.Unary unary.Not)) = Some unary.Not
prefix_of _ = None
