-- What a token is to the grammar of declarations.
use Rattle.std.specs.Prelude.{ℕ, Bool, List, map, codes, nat_eq, if◌then◌else◌}
use lib.Pointwise.{pointwise}
use Rattle.java_token.specs.declared.token.Token.{Token}
use Rattle.java_token.specs.declared.token.TokenKind.{TokenKind}
use Rattle.java_token.specs.declared.token.TokenKind.TheVariants as kind
use Rattle.java_token.specs.declared.keyword.Kw.{Kw}
use Rattle.java_token.specs.declared.keyword.Kw.TheVariants as word
use Rattle.java_token.specs.declared.operator.OpTok.{OpTok}
use Rattle.java_token.specs.declared.operator.OpTok.TheVariants as op
use Rattle.java_ast.specs.declared.types.Primitive.TheVariants as primitive
use Rattle.java_ast.specs.declared.expression.BinOp.TheVariants as binary
use Rattle.java_ast.specs.declared.expression.UnOp.TheVariants as unary
use Rattle.java_grammar.specs.declared.part.Part.{Part}
use Rattle.java_grammar.specs.declared.part.Part.TheVariants as part
use Rattle.java_grammar.specs.declared.part.ModifierWord.TheVariants as modifier
use Rattle.java_grammar.specs.declared.part.Pair.TheVariants as pair

-- keywords (JLS 3.9); `true`, `false` and `null` are literals (JLS 3.10.3, 3.10.8)
abbrev pub keyword_part : Kw → Part
keyword_part word.True = part.Literal
keyword_part word.False = part.Literal
keyword_part word.Null = part.Literal
keyword_part word.Boolean = part.Primitive primitive.Boolean
keyword_part word.Byte = part.Primitive primitive.Byte
keyword_part word.Short = part.Primitive primitive.Short
keyword_part word.Int = part.Primitive primitive.Int
keyword_part word.Long = part.Primitive primitive.Long
keyword_part word.Char = part.Primitive primitive.Char
keyword_part word.Float = part.Primitive primitive.Float
keyword_part word.Double = part.Primitive primitive.Double
keyword_part word.Void = part.Void
keyword_part word.Public = part.Modifier modifier.Public
keyword_part word.Protected = part.Modifier modifier.Protected
keyword_part word.Private = part.Modifier modifier.Private
keyword_part word.Abstract = part.Modifier modifier.Abstract
keyword_part word.Static = part.Modifier modifier.Static
keyword_part word.Final = part.Modifier modifier.Final
keyword_part word.Transient = part.Modifier modifier.Transient
keyword_part word.Volatile = part.Modifier modifier.Volatile
keyword_part word.Synchronized = part.Modifier modifier.Synchronized
keyword_part word.Native = part.Modifier modifier.Native
keyword_part word.Strictfp = part.Modifier modifier.Strictfp
keyword_part word.Default = part.Modifier modifier.Default
keyword_part word.Class = part.Class
keyword_part word.Interface = part.Interface
keyword_part word.Enum = part.Enum
keyword_part word.Package = part.Package
keyword_part word.Import = part.Import
keyword_part word.Extends = part.Extends
keyword_part word.Implements = part.Implements
keyword_part word.Throws = part.Throws
keyword_part word.Super = part.Super
keyword_part word.This = part.This
keyword_part word.New = part.New
keyword_part word.Instanceof = part.Instanceof
keyword_part _ = part.Other

-- separators and operators (JLS 3.11, 3.12)
abbrev pub operator_part : OpTok → Part
operator_part op.LeftParenthesis = part.Opening pair.Parentheses
operator_part op.RightParenthesis = part.Closing pair.Parentheses
operator_part op.LeftBrace = part.Opening pair.Braces
operator_part op.RightBrace = part.Closing pair.Braces
operator_part op.LeftBracket = part.Opening pair.Brackets
operator_part op.RightBracket = part.Closing pair.Brackets
operator_part op.Semicolon = part.Semicolon
operator_part op.Comma = part.Comma
operator_part op.Dot = part.Dot
operator_part op.Ellipsis = part.Ellipsis
operator_part op.At = part.At
operator_part op.DoubleColon = part.DoubleColon
operator_part op.Assign = part.Assign
operator_part op.Question = part.Question
operator_part op.Colon = part.Colon
operator_part op.Not = part.Unary unary.Not
operator_part op.Complement = part.Unary unary.Complement
operator_part op.Star = part.Binary binary.Star
operator_part op.Slash = part.Binary binary.Slash
operator_part op.Percent = part.Binary binary.Percent
operator_part op.Plus = part.Binary binary.Plus
operator_part op.Minus = part.Binary binary.Minus
operator_part op.ShiftLeft = part.Binary binary.ShiftLeft
operator_part op.ShiftRight = part.Binary binary.ShiftRight
operator_part op.ShiftRightUnsigned = part.Binary binary.ShiftRightUnsigned
operator_part op.Less = part.Binary binary.Less
operator_part op.LessEqual = part.Binary binary.LessEqual
operator_part op.Greater = part.Binary binary.Greater
operator_part op.GreaterEqual = part.Binary binary.GreaterEqual
operator_part op.Equal = part.Binary binary.Equal
operator_part op.NotEqual = part.Binary binary.NotEqual
operator_part op.And = part.Binary binary.And
operator_part op.Xor = part.Binary binary.Xor
operator_part op.Or = part.Binary binary.Or
operator_part op.AndAnd = part.Binary binary.AndAnd
operator_part op.OrOr = part.Binary binary.OrOr
operator_part _ = part.OtherOperator

-- `sealed` is the one contextual keyword (JLS 3.9) that a type's first word may be only before a
-- further word
abbrev pub is_sealed_name : List ℕ → Bool
is_sealed_name name = pointwise nat_eq name (codes "sealed")

abbrev pub word_part : List ℕ → Part
word_part name = if is_sealed_name name then part.Sealed else part.Word

abbrev pub kind_part : TokenKind → Part
kind_part (kind.Word name) = word_part name
kind_part (kind.Keyword keyword) = keyword_part keyword
kind_part (kind.Lit literal) = part.Literal
kind_part (kind.Op operator) = operator_part operator

unfoldable pub part_of : Token → Part
part_of token = kind_part token.kind

abbrev pub parts : List Token → List Part
parts tokens = map part_of tokens
