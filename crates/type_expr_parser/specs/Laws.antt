-- That readings read just what is spelled.
use Rattle.std.specs.Prelude.{◌≡◌, ℕ, ◌≤◌, List, ◌++◌, length, Some, None}
use Rattle.java_grammar.specs.Marks.{Mark}
use Rattle.java_grammar.specs.Reading.{IsFront}
use Rattle.java_grammar.specs.Expressions.{ExprSpells}
use Rattle.java_grammar.specs.Annotations.{AnnSpells, ElemSpells}
use Rattle.java_grammar.specs.Types.{TypeSpells, BareSpells, Dims}
use Rattle.type_expr_parser.specs.Reading.{Read, found, many_count}
use Rattle.type_expr_parser.specs.Expressions.{Whole, nested_at}
use Rattle.type_expr_parser.specs.Annotations.{annotation_at, value_at}
use Rattle.type_expr_parser.specs.Types.{type_at, bare_over, dimension_at}
use Rattle.type_expr_parser.specs.Follows.{ExprEnds, AnnEnds, TypeEnds}

-- What is read is spelled by the marks up to what is left. What is spelled by no more marks than
-- the depth is read, whatever item it is, where nothing goes on with it; so these marks spell no
-- other.
pub record ReadsJust {A : Type 0} (read : ℕ → List Mark → Read A) (Spells : A → List Mark → Type 0)
    (EndsIt : List Mark → Type 0) : Type 0 where
  pub takes : (depth : ℕ) (text : List Mark) (item : A) (left : List Mark)
      → read depth text ≡ found item left → IsFront (Spells item) text left
  pub again : (depth : ℕ) (item : A) (text left : List Mark) → Spells item text
      → length text ≤ depth → EndsIt left → read depth (text ++ left) ≡ found item left

abbrev pub ExpressionsAreRead : Type 0
ExpressionsAreRead = ReadsJust (λ depth. nested_at depth Whole) ExprSpells ExprEnds

abbrev pub AnnotationsAreRead : Type 0
AnnotationsAreRead = ReadsJust annotation_at AnnSpells AnnEnds

abbrev pub TypesAreRead : Type 0
TypesAreRead = ReadsJust type_at TypeSpells TypeEnds

abbrev pub BareTypesAreRead : Type 0
BareTypesAreRead = ReadsJust (λ depth. bare_over (type_at depth) depth) BareSpells TypeEnds

-- no further dimension
abbrev pub DimsEnd : List Mark → Type 0
DimsEnd left = (depth : ℕ) → dimension_at depth left ≡ None

abbrev pub DimensionsAreRead : Type 0
DimensionsAreRead = ReadsJust (λ depth text. Some (many_count (dimension_at depth) depth text))
    Dims DimsEnd

abbrev pub ValuesAreRead : Type 0
ValuesAreRead = ReadsJust value_at ElemSpells ExprEnds
