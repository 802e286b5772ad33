-- Reading literals (JLS 3.10), names and class literals (JLS 15.8.2).
use Rattle.std.specs.Prelude.{ℕ, ◌||◌, Bool, true, false, if◌then◌else◌, List, Option, Some, None}
use Rattle.java_token.specs.declared.token.TokenKind.{TokenKind}
use Rattle.java_token.specs.declared.token.TokenKind.TheVariants as kind
use Rattle.java_token.specs.declared.keyword.Kw.{Kw}
use Rattle.java_token.specs.declared.keyword.Kw.TheVariants as keyword
use Rattle.java_ast.specs.declared.types.TypeTree.{TypeTree}
use Rattle.java_ast.specs.declared.types.TypeTree.TheVariants as tree
use Rattle.java_ast.specs.declared.types.Primitive.{Primitive}
use Rattle.java_ast.specs.declared.expression.Expr.{Expr}
use Rattle.java_ast.specs.declared.expression.Expr.TheVariants as expr
use Rattle.java_ast.specs.declared.expression.Lit.{Lit}
use Rattle.java_ast.specs.declared.expression.Lit.TheVariants as literal
use Rattle.java_grammar.specs.Marks.{Mark}
use Rattle.java_grammar.specs.Expressions.{literal_of}
use Rattle.java_grammar.specs.declared.sign.Sign.TheVariants as sign
use Rattle.type_expr_parser.specs.Reading.{Read, ◌>>=◌, many_count, token_at, front_line, comes}
use Rattle.type_expr_parser.specs.Reading.{sign_at}
use Rattle.type_expr_parser.specs.Names.{qname_at, bracket_pair_at, plain_type, with_dims}

abbrev pub keyword_literal : Kw → Option Lit
keyword_literal keyword.True = Some (literal.Bool true)
keyword_literal keyword.False = Some (literal.Bool false)
keyword_literal keyword.Null = Some literal.Null
keyword_literal _ = None

abbrev pub literal_in : TokenKind → Option Lit
literal_in (kind.Lit l) = Some (literal_of l)
literal_in (kind.Keyword k) = keyword_literal k
literal_in _ = None

unfoldable pub literal_at : List Mark → Read Expr
literal_at text = do
  token ← token_at text
  l ← literal_in token.0.kind
  Some (expr.Lit l, token.1)

-- behind a type
unfoldable pub class_literal_at : TypeTree → ℕ → List Mark → Read Expr
class_literal_at element n text =
    let dims = many_count bracket_pair_at n text in do
      dot ← sign_at sign.Dot dims.1
      word ← sign_at sign.Class dot.1
      Some (expr.ClassLit (with_dims element dims.0), word.1)

unfoldable pub primitive_class_at : Primitive → ℕ → List Mark → Read Expr
primitive_class_at p n text = do
  token ← token_at text
  class_literal_at (tree.Primitive p) n token.1

unfoldable pub void_class_at : List Mark → Read Expr
void_class_at text = do
  token ← token_at text
  dot ← sign_at sign.Dot token.1
  word ← sign_at sign.Class dot.1
  Some (expr.ClassLit tree.Void, word.1)

-- brackets or a dot come next
abbrev pub goes_on : List Mark → Bool
goes_on text = comes sign.LeftBracket text || comes sign.Dot text

unfoldable pub behind_name : ℕ → List (List ℕ) → ℕ → List Mark → Read Expr
behind_name line words n text =
    if goes_on text then class_literal_at (plain_type line words) n text
    else Some (expr.Name words, text)

unfoldable pub named_at : ℕ → List Mark → Read Expr
named_at n text = do
  words ← qname_at n text
  behind_name (front_line text) words.0 n words.1
