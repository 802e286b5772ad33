-- Reading constant expressions (JLS 15.29) and class literals, by the levels of their operators.
use Rattle.std.specs.Prelude.{ℕ, zero, suc, ◌==◌, Bool, true, false, ◌&&◌, if◌then◌else◌, List}
use Rattle.std.specs.Prelude.{[], ◌∷◌, Option, Some, None}
use Rattle.java_ast.specs.declared.types.TypeTree.{TypeTree}
use Rattle.java_ast.specs.declared.types.TypeTree.TheVariants as tree
use Rattle.java_ast.specs.declared.types.Primitive.{Primitive}
use Rattle.java_ast.specs.declared.expression.Expr.{Expr, out-Expr}
use Rattle.java_ast.specs.declared.expression.Expr.TheOpen.{Expr-F}
use Rattle.java_ast.specs.declared.expression.Expr.TheVariants as expr
use Rattle.java_ast.specs.declared.expression.Link.{Link}
use Rattle.java_ast.specs.declared.expression.Expr.TheViews.{roll-Link}
use Rattle.java_ast.specs.declared.expression.UnOp.{UnOp}
use Rattle.java_grammar.specs.declared.part.Part.{Part}
use Rattle.java_grammar.specs.declared.part.Part.TheVariants as part
use Rattle.java_grammar.specs.declared.part.Pair.TheVariants as pair
use Rattle.java_grammar.specs.Marks.{Mark}
use Rattle.java_grammar.specs.Reading.{front_part, behind_mark}
use Rattle.java_grammar.specs.Tests.{is_word}
use Rattle.type_expr_parser.specs.declared.looseness.TheConstants.{LOOSEST}
use Rattle.java_grammar.specs.declared.sign.Sign.TheVariants as sign
use Rattle.type_expr_parser.specs.Reading.{Read, ◌>>=◌, many, token_at, comes, sign_at}
use Rattle.type_expr_parser.specs.Reading.{front_line, operator_at}
use Rattle.type_expr_parser.specs.Names.{plain_type}
use Rattle.type_expr_parser.specs.Literals.{literal_at, primitive_class_at, void_class_at}
use Rattle.type_expr_parser.specs.Literals.{named_at}
use Rattle.type_expr_parser.specs.Levels.{looseness, prefix_of}

-- where an expression stands in another: in parentheses and in `?`, or behind a prefix operator or
-- a cast
pub data Place : Type 0 where
  Whole : Place
  Operand : Place

-- how the expressions in one are read
abbrev pub Nested : Type 0
Nested = Place → List Mark → Read Expr

-- ---- casts and parentheses

abbrev pub is_word_part : Option Part → Bool
is_word_part None = false
is_word_part (Some p) = is_word p

abbrev pub begins_unsigned : Option Part → Bool
begins_unsigned None = false
begins_unsigned (Some part.Word) = true
begins_unsigned (Some part.Sealed) = true
begins_unsigned (Some part.Literal) = true
begins_unsigned (Some (part.Primitive p)) = true
begins_unsigned (Some part.Void) = true
begins_unsigned (Some (part.Unary op)) = true
begins_unsigned (Some (part.Opening pair.Parentheses)) = true
begins_unsigned (Some _) = false

abbrev pub closed_by : Option Part → List Mark → Option Primitive
closed_by (Some (part.Primitive p)) behind =
    if comes sign.RightParenthesis behind then Some p else None
closed_by _ behind = None

-- the primitive type that comes next with `)` behind it
abbrev pub closed_primitive : List Mark → Option Primitive
closed_primitive text = closed_by (front_part text) (behind_mark text)

-- behind the type of a cast
unfoldable pub cast_over : Nested → TypeTree → List Mark → Read Expr
cast_over nested type text = do
  operand ← nested Operand text
  Some (expr.Cast type operand.0, operand.1)

unfoldable pub primitive_cast_over : Nested → Primitive → List Mark → Read Expr
primitive_cast_over nested p text = do
  token ← token_at text
  closing ← sign_at sign.RightParenthesis token.1
  cast_over nested (tree.Primitive p) closing.1

abbrev pub named_by : Nested → ℕ → Expr → Expr-F Expr Link → List Mark → Read Expr
named_by nested line inner (Expr-F.Name words) text = cast_over nested (plain_type line words) text
named_by nested line inner _ text = Some (inner, text)

-- behind an expression in parentheses, where it is a name: a cast's
unfoldable pub behind_name_over : Nested → ℕ → Expr → List Mark → Read Expr
behind_name_over nested line inner text = named_by nested line inner (out-Expr inner) text

-- behind `(`
unfoldable pub grouped_over : Nested → List Mark → Read Expr
grouped_over nested text = do
  inner ← nested Whole text
  closing ← sign_at sign.RightParenthesis inner.1
  if is_word_part (front_part text) && begins_unsigned (front_part closing.1)
      then behind_name_over nested (front_line text) inner.0 closing.1
      else Some (inner.0, closing.1)

abbrev pub opened_by : Nested → Option Primitive → List Mark → Read Expr
opened_by nested (Some p) text = primitive_cast_over nested p text
opened_by nested None text = grouped_over nested text

unfoldable pub opened_over : Nested → List Mark → Read Expr
opened_over nested text = do
  opening ← sign_at sign.LeftParenthesis text
  opened_by nested (closed_primitive opening.1) opening.1

-- ---- prefix operators

unfoldable pub prefixed_over : Nested → UnOp → List Mark → Read Expr
prefixed_over nested op text = do
  token ← token_at text
  operand ← nested Operand token.1
  Some (expr.Unary op operand.0, operand.1)

abbrev pub unprefixed_by : Nested → ℕ → Option Part → List Mark → Read Expr
unprefixed_by nested n (Some (part.Opening pair.Parentheses)) text = opened_over nested text
unprefixed_by nested n (Some part.Word) text = named_at n text
unprefixed_by nested n (Some part.Sealed) text = named_at n text
unprefixed_by nested n (Some part.Literal) text = literal_at text
unprefixed_by nested n (Some (part.Primitive p)) text = primitive_class_at p n text
unprefixed_by nested n (Some part.Void) text = void_class_at text
unprefixed_by nested n _ text = None

unfoldable pub unprefixed_over : Nested → ℕ → List Mark → Read Expr
unprefixed_over nested n text = unprefixed_by nested n (front_part text) text

abbrev pub unary_by : Nested → ℕ → List Mark → Option UnOp → Read Expr
unary_by nested n text (Some op) = prefixed_over nested op text
unary_by nested n text None = unprefixed_over nested n text

unfoldable pub unary_over : Nested → ℕ → List Mark → Read Expr
unary_over nested n text = unary_by nested n text (prefix_of (front_part text))

-- ---- binary operators

-- an operator that binds one step more loosely than this, and its right operand
unfoldable pub link_over : (List Mark → Read Expr) → ℕ → List Mark → Read Link
link_over operand loosest text = do
  op ← operator_at text
  if looseness op.0 == suc loosest then (do
    right ← operand op.1
    Some (roll-Link (record { op = op.0; right = right.0 }), right.1)) else None

abbrev pub chain_of : Expr → List Link → Expr
chain_of first [] = first
chain_of first (link ∷ rest) = expr.Chain first (link ∷ rest)

-- operators that bind at most so loosely
unfoldable pub chain_over : Nested → ℕ → ℕ → List Mark → Read Expr
chain_over nested n zero text = unary_over nested n text
chain_over nested n (suc loosest) text = do
  first ← chain_over nested n loosest text
  let links = many (link_over (chain_over nested n loosest) loosest) n first.1
  Some (chain_of first.0 links.0, links.1)

-- ---- conditionals

unfoldable pub chosen_over : Nested → Expr → List Mark → Read Expr
chosen_over nested test text = do
  question ← sign_at sign.Question text
  chosen ← nested Whole question.1
  colon ← sign_at sign.Colon chosen.1
  other ← nested Whole colon.1
  Some (expr.Cond test chosen.0 other.0, other.1)

unfoldable pub conditional_over : Nested → ℕ → List Mark → Read Expr
conditional_over nested n text = do
  test ← chain_over nested n LOOSEST text
  if comes sign.Question test.1 then chosen_over nested test.0 test.1 else Some test

-- ---- expressions, of which at most so many stand in each other

unfoldable pub nested_at : ℕ → Nested
nested_at zero place text = None
nested_at (suc n) Whole text = conditional_over (nested_at n) n text
nested_at (suc n) Operand text = unary_over (nested_at n) n text
