-- Which texts spell which expressions: constant expressions (JLS 15.29) and class literals (JLS
-- 15.8.2), by the levels of JLS 15.7.3 and 15.15 to 15.25, 15.8.1 to 15.8.5.
use Rattle.std.specs.Prelude.{◌≡◌, ℕ, zero, suc, Bool, true, false, nat_le, List, [], ◌∷◌, None}
use Rattle.std.specs.Prelude.{◌⊎◌}
use Rattle.java_token.specs.declared.token.Token.{Token}
use Rattle.java_token.specs.declared.token.TokenKind.TheVariants as kind
use Rattle.java_token.specs.declared.token.LexLit.{LexLit}
use Rattle.java_token.specs.declared.token.LexLit.TheVariants as lexed
use Rattle.java_token.specs.declared.keyword.Kw.TheVariants as keyword
use Rattle.java_ast.specs.declared.types.TypeTree.{TypeTree, out-TypeTree}
use Rattle.java_ast.specs.declared.types.NamePart.{NamePart, out-NamePart}
use Rattle.java_ast.specs.declared.types.ArgTree.TheOpen.{TypeTree-F, NamePart-F}
use Rattle.java_ast.specs.declared.types.ArgTree.{ArgTree}
use Rattle.java_ast.specs.declared.expression.Expr.{Expr, out-Expr}
use Rattle.java_ast.specs.declared.expression.Link.{Link, out-Link}
use Rattle.java_ast.specs.declared.expression.Expr.TheOpen.{Expr-F, Link-F}
use Rattle.java_ast.specs.declared.expression.Lit.{Lit}
use Rattle.java_ast.specs.declared.expression.Lit.TheVariants as literal
use Rattle.java_ast.specs.declared.expression.BinOp.{BinOp}
use Rattle.java_ast.specs.declared.expression.BinOp.TheVariants as binary
use Rattle.java_ast.specs.declared.expression.UnOp.{UnOp}
use Rattle.java_ast.specs.declared.expression.UnOp.TheVariants as unary
use Rattle.java_grammar.specs.declared.part.Part.{Part}
use Rattle.java_grammar.specs.declared.part.Part.TheVariants as part
use Rattle.java_grammar.specs.declared.part.Pair.TheVariants as pair
use Rattle.java_grammar.specs.Parts.{part_of}
use Rattle.java_grammar.specs.Marks.{Mark, Single, Angle, Line}
use Rattle.java_grammar.specs.Words.{Nothing, ◌⨾◌, Row, Separated, Is, Word, WordOn}

-- ---- levels, from the loosest

abbrev pub conditional : ℕ
conditional = 0

-- `||`, `&&`, `|`, `^`, `&`, equality, relations, shifts, sums, products (JLS 15.17 to 15.24)
abbrev pub operator_level : BinOp → ℕ
operator_level binary.OrOr = 1
operator_level binary.AndAnd = 2
operator_level binary.Or = 3
operator_level binary.Xor = 4
operator_level binary.And = 5
operator_level binary.Equal = 6
operator_level binary.NotEqual = 6
operator_level binary.Less = 7
operator_level binary.LessEqual = 7
operator_level binary.Greater = 7
operator_level binary.GreaterEqual = 7
operator_level binary.ShiftLeft = 8
operator_level binary.ShiftRight = 8
operator_level binary.ShiftRightUnsigned = 8
operator_level binary.Plus = 9
operator_level binary.Minus = 9
operator_level binary.Star = 10
operator_level binary.Slash = 10
operator_level binary.Percent = 10

-- JLS 15.15, 15.16
abbrev pub unary_level : ℕ
unary_level = 11

-- JLS 15.8
abbrev pub primary : ℕ
primary = 12

-- ---- names, literals, operators

abbrev pub Dot : Line
Dot = Is part.Dot

-- a qualified name (JLS 6.5)
abbrev pub QName : List (List ℕ) → Line
QName words = Separated Dot Word words

-- the token of a literal (JLS 3.10)
abbrev pub literal_of : LexLit → Lit
literal_of (lexed.Int value decimal long) = literal.Int value decimal long
literal_of (lexed.Real double) = literal.Real double
literal_of (lexed.Char unit) = literal.Char unit
literal_of (lexed.Str text) = literal.Str text

-- `true`, `false` and `null` (JLS 3.10.3, 3.10.8), and those that the lexer reads
pub data IsLiteral : Lit → Token → Type 0 where
  read : (l : LexLit) (t : Token) → t.kind ≡ kind.Lit l → IsLiteral (literal_of l) t
  truth : (t : Token) → t.kind ≡ kind.Keyword keyword.True → IsLiteral (literal.Bool true) t
  falsehood : (t : Token) → t.kind ≡ kind.Keyword keyword.False → IsLiteral (literal.Bool false) t
  nothing : (t : Token) → t.kind ≡ kind.Keyword keyword.Null → IsLiteral literal.Null t

pub record Literal (l : Lit) (text : List Mark) : Type 0 where
  pub token : Token
  pub whole : text ≡ Single token ∷ []
  pub is : IsLiteral l token

abbrev pub angles_text : List Bool → List Mark
angles_text [] = []
angles_text (more ∷ rest) = Angle more ∷ angles_text rest

-- a binary operator: `>`, `>>` and `>>>` are all the angles of one token
abbrev pub Operator : BinOp → Line
Operator binary.Greater text = text ≡ Angle false ∷ []
Operator binary.ShiftRight text = text ≡ Angle true ∷ Angle false ∷ []
Operator binary.ShiftRightUnsigned text = text ≡ Angle true ∷ Angle true ∷ Angle false ∷ []
Operator op text = Is (part.Binary op) text

abbrev pub Prefix : UnOp → Line
Prefix unary.Plus = Is (part.Binary binary.Plus)
Prefix unary.Minus = Is (part.Binary binary.Minus)
Prefix unary.Complement = Is (part.Unary unary.Complement)
Prefix unary.Not = Is (part.Unary unary.Not)

-- ---- types in expressions: names without type arguments or annotations (JLS 15.8.2, 15.16)

abbrev pub TypeLayer : Type 0
TypeLayer = TypeTree-F ArgTree TypeTree NamePart

abbrev pub PartLayer : Type 0
PartLayer = NamePart-F ArgTree TypeTree NamePart

abbrev pub PlainWord : PartLayer → Line → Line
PlainWord p word text = (p.args ≡ None) × word text

abbrev pub FurtherWord : NamePart → Line
FurtherWord p = Dot ⨾ PlainWord (out-NamePart p) (Word (out-NamePart p).name)

-- a name, its first word on this line of the source
abbrev pub PlainName : ℕ → List NamePart → Line
PlainName line [] text = ⊥
PlainName line (p ∷ parts) text =
    (PlainWord (out-NamePart p) (WordOn line (out-NamePart p).name) ⨾ Row FurtherWord parts) text

abbrev pub BracketPairs : ℕ → Line
BracketPairs zero = Nothing
BracketPairs (suc n) = Is (part.Opening pair.Brackets)
    ⨾ (Is (part.Closing pair.Brackets) ⨾ BracketPairs n)

-- a primitive type or a name
abbrev pub PlainBase : TypeLayer → Line
PlainBase (TypeTree-F.Primitive p) text = Is (part.Primitive p) text
PlainBase (TypeTree-F.Named line parts) text = PlainName line parts text
PlainBase _ text = ⊥

-- the type of a class literal
abbrev pub LiteralType : TypeLayer → Line
LiteralType TypeTree-F.Void = Is part.Void
LiteralType (TypeTree-F.Array element zero) = λ text. ⊥
LiteralType (TypeTree-F.Array element (suc n)) = PlainBase (out-TypeTree element)
    ⨾ BracketPairs (suc n)
LiteralType base = PlainBase base

-- ---- one node, whose operands are spelled as `Operand` says, at a level

abbrev pub InParentheses : Line → Line
InParentheses line = Is (part.Opening pair.Parentheses)
    ⨾ (line ⨾ Is (part.Closing pair.Parentheses))

-- the text doesn't begin with `+` or `-`
abbrev pub is_sign : Part → Bool
is_sign (part.Binary binary.Plus) = true
is_sign (part.Binary binary.Minus) = true
is_sign _ = false

abbrev pub begins_with_sign : List Mark → Bool
begins_with_sign (Single token ∷ text) = is_sign (part_of token)
begins_with_sign _ = false

abbrev pub Unsigned : Line → Line
Unsigned line text = (begins_with_sign text ≡ false) × line text

-- a cast to a primitive type stands before any unary expression, one to a name before one that
-- begins with no sign
abbrev pub CastLine : Line → TypeLayer → Line
CastLine operand (TypeTree-F.Primitive p) = InParentheses (Is (part.Primitive p)) ⨾ operand
CastLine operand (TypeTree-F.Named line parts) = InParentheses (PlainName line parts)
    ⨾ Unsigned operand
CastLine operand _ = λ text. ⊥

abbrev pub LinkLine : (ℕ → Expr → Line) → ℕ → Link-F Expr Link → Line
LinkLine Operand level l text = (operator_level l.op ≡ level) ×
    (Operator l.op ⨾ Operand (suc level) l.right) text

-- the operators of one level, from the left
abbrev pub ChainLine : (ℕ → Expr → Line) → Expr → List Link → Line
ChainLine Operand first [] text = ⊥
ChainLine Operand first (l ∷ rest) text =
    let level = operator_level (out-Link l).op in
    (Operand (suc level) first ⨾ Row (λ link. LinkLine Operand level (out-Link link))
    (l ∷ rest)) text

abbrev pub NodeLine : (ℕ → Expr → Line) → Expr-F Expr Link → Line
NodeLine Operand (Expr-F.Lit l) = Literal l
NodeLine Operand (Expr-F.Name words) = QName words
NodeLine Operand (Expr-F.ClassLit type) = LiteralType (out-TypeTree type) ⨾ (Dot ⨾ Is part.Class)
NodeLine Operand (Expr-F.Unary op operand) = Prefix op ⨾ Operand unary_level operand
NodeLine Operand (Expr-F.Chain first rest) = ChainLine Operand first rest
NodeLine Operand (Expr-F.Cond test chosen other) =
    Operand (suc conditional) test
    ⨾ (Is part.Question ⨾ (Operand conditional chosen
    ⨾ (Is part.Colon ⨾ Operand conditional other)))
NodeLine Operand (Expr-F.Cast type operand) = CastLine (Operand unary_level operand)
    (out-TypeTree type)

-- the level of a node
abbrev pub chain_level : List Link → ℕ
chain_level [] = primary
chain_level (l ∷ rest) = operator_level (out-Link l).op

abbrev pub level_of : Expr-F Expr Link → ℕ
level_of (Expr-F.Lit l) = primary
level_of (Expr-F.Name words) = primary
level_of (Expr-F.ClassLit type) = primary
level_of (Expr-F.Unary op operand) = unary_level
level_of (Expr-F.Chain first rest) = chain_level rest
level_of (Expr-F.Cond test chosen other) = conditional
level_of (Expr-F.Cast type operand) = unary_level

-- ---- expressions

-- an expression at a place of this level, with fewer than so many nodes and parentheses inside
-- each other: a node of this level or a tighter one, or any expression in parentheses (JLS
-- 15.8.5)
unfoldable pub ExprWithin : ℕ → ℕ → Expr → Line
ExprWithin zero level e text = ⊥
ExprWithin (suc n) level e text =
    ((nat_le level (level_of (out-Expr e)) ≡ true) × NodeLine (ExprWithin n) (out-Expr e) text)
    ⊎ InParentheses (ExprWithin n conditional e) text

-- the text spells the expression
abbrev pub ExprSpells : Expr → Line
ExprSpells e text = (n : ℕ) × ExprWithin n conditional e text
