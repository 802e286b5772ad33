-- Reading annotations and the values of their elements (JLS 9.7, 9.7.1).
use Rattle.std.specs.Prelude.{ℕ, zero, suc, Bool, false, if◌then◌else◌, List, [], ◌∷◌, codes}
use Rattle.std.specs.Prelude.{Some, None}
use Rattle.java_ast.specs.declared.annotation.AnnTree.{AnnTree}
use Rattle.java_ast.specs.declared.annotation.ElemArg.{ElemArg}
use Rattle.java_ast.specs.declared.annotation.ElemTree.{ElemTree}
use Rattle.java_ast.specs.declared.annotation.ElemTree.TheVariants as element
use Rattle.java_ast.specs.declared.annotation.ElemTree.TheViews.{roll-AnnTree, roll-ElemArg}
use Rattle.java_grammar.specs.Marks.{Mark}
use Rattle.java_grammar.specs.Reading.{front_part, behind_mark}
use Rattle.java_grammar.specs.declared.sign.Sign.TheVariants as sign
use Rattle.type_expr_parser.specs.Reading.{Read, ◌>>=◌, step, many, prepended, behind_many}
use Rattle.type_expr_parser.specs.Reading.{front_line, comes, sign_at, word_at}
use Rattle.type_expr_parser.specs.Names.{qname_at}
use Rattle.type_expr_parser.specs.Expressions.{nested_at, conditional_over, is_word_part}

-- how the values in one are read
abbrev pub Values : Type 0
Values = List Mark → Read ElemTree

-- ---- values in braces

unfoldable pub further_value_over : Values → List Mark → Read ElemTree
further_value_over value text = do
  comma ← sign_at sign.Comma text
  value comma.1

unfoldable pub values_over : Values → ℕ → List Mark → Read (List ElemTree)
values_over value n text = step (value text) (Some ([], text))
    (λ first rest. Some (prepended (first ∷ []) (many (further_value_over value) n rest)))

-- without a comma that comes next
abbrev pub behind_comma : List Mark → List Mark
behind_comma text = if comes sign.Comma text then behind_mark text else text

unfoldable pub list_over : Values → ℕ → List Mark → Read ElemTree
list_over value n text = do
  opening ← sign_at sign.LeftBrace text
  values ← values_over value n opening.1
  closing ← sign_at sign.RightBrace (behind_comma values.1)
  Some (element.List values.0, closing.1)

-- ---- elements

unfoldable pub sole_over : Values → List Mark → Read (List ElemArg)
sole_over value text = do
  v ← value text
  Some (roll-ElemArg (record { name = codes "value"; value = v.0 }) ∷ [], v.1)

unfoldable pub pair_over : Values → List Mark → Read ElemArg
pair_over value text = do
  name ← word_at text
  assign ← sign_at sign.Assign name.1
  v ← value assign.1
  Some (roll-ElemArg (record { name = name.0; value = v.0 }), v.1)

unfoldable pub further_pair_over : Values → List Mark → Read ElemArg
further_pair_over value text = do
  comma ← sign_at sign.Comma text
  pair_over value comma.1

unfoldable pub pairs_over : Values → ℕ → List Mark → Read (List ElemArg)
pairs_over value n text = do
  first ← pair_over value text
  Some (prepended (first.0 ∷ []) (many (further_pair_over value) n first.1))

-- a word and `=` come next
abbrev pub begins_pair : List Mark → Bool
begins_pair text = if is_word_part (front_part text) then comes sign.Assign (behind_mark text)
    else false

unfoldable pub inside_over : Values → ℕ → List Mark → Read (List ElemArg)
inside_over value n text =
    if comes sign.RightParenthesis text then Some ([], text)
    else (if begins_pair text then pairs_over value n text else sole_over value text)

unfoldable pub elements_over : Values → ℕ → List Mark → Read (List ElemArg)
elements_over value n text = do
  opening ← sign_at sign.LeftParenthesis text
  args ← inside_over value n opening.1
  closing ← sign_at sign.RightParenthesis args.1
  Some (args.0, closing.1)

-- only where they are whole
unfoldable pub any_elements_over : Values → ℕ → List Mark → Read (List ElemArg)
any_elements_over value n text = step (elements_over value n text) (Some ([], text))
    (λ args rest. Some (args, rest))

-- ---- annotations

unfoldable pub annotation_over : Values → ℕ → List Mark → Read AnnTree
annotation_over value n text = do
  at ← sign_at sign.At text
  names ← qname_at n at.1
  args ← any_elements_over value n names.1
  Some (
    roll-AnnTree (record { line = front_line text; names = names.0; args = args.0 }),
    args.1,
  )

unfoldable pub value_over : Values → ℕ → List Mark → Read ElemTree
value_over value n text =
    if comes sign.At text then (annotation_over value n text >>= λ a.
    Some (element.Ann a.0, a.1))
    else (if comes sign.LeftBrace text then list_over value n text
    else (conditional_over (nested_at n) n text >>= λ e. Some (element.Value e.0, e.1)))

-- a value, in which at most so many stand in each other
unfoldable pub value_at : ℕ → Values
value_at zero text = None
value_at (suc n) text = value_over (value_at n) n text

unfoldable pub annotation_at : ℕ → List Mark → Read AnnTree
annotation_at n text = annotation_over (value_at n) n text

-- behind the annotations that come next
abbrev pub behind_annotations : ℕ → List Mark → List Mark
behind_annotations n text = behind_many (annotation_at n) n text
