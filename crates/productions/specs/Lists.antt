-- Lists in parentheses, and types before `...`.
use Rattle.std.specs.Prelude.{ℕ, Bool, true, false, List, [], ◌∷◌}
use Rattle.java_ast.specs.declared.types.TypeTree.{TypeTree}
use Rattle.java_ast.specs.declared.annotation.AnnTree.{AnnTree}
use Rattle.java_grammar.specs.declared.sign.Sign.TheVariants as sign
use Rattle.java_grammar.specs.Marks.{Mark, Line}
use Rattle.java_grammar.specs.Words.{◌⨾◌, PerhapsCommas}
use Rattle.java_grammar.specs.Reading.{behind_mark}
use Rattle.java_grammar.specs.Expressions.{InParentheses}
use Rattle.java_grammar.specs.Types.{BareSpells}
use Rattle.java_grammar.specs.Members.{Ellipsis}
use Rattle.type_expr_parser.specs.Reading.{Read, found, ◌>>=◌, comes}
use Rattle.type_expr_parser.specs.Annotations.{behind_annotations}
use Rattle.productions.specs.Keys.{Fixed, Plain, primitives}
use Rattle.productions.specs.Productions.{Production, a_sign, ◌▹◌, ◌◃◌, made, spelled, picked, row}
use Rattle.productions.specs.Productions.{separated}
use Rattle.productions.specs.Leaves.{annotation, bare_type}

-- annotations one behind the other
abbrev pub annotation_row : Production (List AnnTree)
annotation_row = row (Fixed sign.At ∷ []) annotation

-- items with commas between them, or none, in parentheses
abbrev pub in_parentheses : {A : Type 0} → Production A → Production (List A)
in_parentheses a = spelled
    (a_sign sign.LeftParenthesis
    ▹ picked (Fixed sign.RightParenthesis) (made (λ none. []) (a_sign sign.RightParenthesis))
    (separated sign.Comma a ◃ a_sign sign.RightParenthesis))
    (λ xs. InParentheses (PerhapsCommas a.Spells xs))

-- `...`, perhaps with annotations before it
abbrev pub dots_by : Bool → List Mark → List Mark → Read Bool
dots_by true text behind = found true (behind_mark behind)
dots_by false text behind = found false text

unfoldable pub ellipsis_at : ℕ → List Mark → Read Bool
ellipsis_at n text =
    dots_by (comes sign.Ellipsis (behind_annotations n text)) text (behind_annotations n text)

-- a type, and whether `...` is behind it (JLS 8.4.1): annotations may be those of a dimension, or
-- of `...`
abbrev pub TypedLine : TypeTree × Bool → Line
TypedLine x = BareSpells x.0 ⨾ Ellipsis x.1

unfoldable pub typed : Production (TypeTree × Bool)
typed = record {
  read = λ n text. bare_type.read n text
      >>= λ t. ellipsis_at n t.1 >>= λ e. found (t.0, e.0) e.1;
  Spells = TypedLine;
  begins = Plain ∷ primitives;
  goes = Fixed sign.Ellipsis ∷ bare_type.goes;
  empty = false;
}
