-- Reading qualified names (JLS 6.5) and pairs of brackets, and types without arguments.
use Rattle.std.specs.Prelude.{ℕ, zero, suc, List, [], ◌∷◌, Some, None, map}
use Rattle.java_ast.specs.declared.types.TypeTree.{TypeTree}
use Rattle.java_ast.specs.declared.types.TypeTree.TheVariants as tree
use Rattle.java_ast.specs.declared.types.NamePart.{NamePart}
use Rattle.java_ast.specs.declared.types.ArgTree.TheViews.{roll-NamePart}
use Rattle.java_grammar.specs.Marks.{Mark}
use Rattle.java_grammar.specs.declared.sign.Sign.TheVariants as sign
use Rattle.type_expr_parser.specs.Reading.{Read, ◌>>=◌, many, prepended, sign_at, word_at}

unfoldable pub further_word_at : List Mark → Read (List ℕ)
further_word_at text = do
  dot ← sign_at sign.Dot text
  word_at dot.1

unfoldable pub qname_at : ℕ → List Mark → Read (List (List ℕ))
qname_at n text = do
  first ← word_at text
  Some (prepended (first.0 ∷ []) (many further_word_at n first.1))

unfoldable pub bracket_pair_at : List Mark → Read (Unit {0})
bracket_pair_at text = do
  opening ← sign_at sign.LeftBracket text
  sign_at sign.RightBracket opening.1

-- a word without type arguments
abbrev pub plain_part : List ℕ → NamePart
plain_part name = roll-NamePart (record { name = name; args = None })

abbrev pub plain_type : ℕ → List (List ℕ) → TypeTree
plain_type line words = tree.Named line (map plain_part words)

abbrev pub with_dims : TypeTree → ℕ → TypeTree
with_dims element zero = element
with_dims element (suc n) = tree.Array element (suc n)
