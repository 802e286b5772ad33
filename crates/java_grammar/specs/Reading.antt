-- Marks that are read from the front.
use Rattle.std.specs.Prelude.{◌≡◌, ℕ, ◌==◌, Bool, true, false, if◌then◌else◌, List, [], ◌∷◌, ◌++◌}
use Rattle.std.specs.Prelude.{Option, Some, None}
use Rattle.java_ast.specs.declared.expression.BinOp.{BinOp}
use Rattle.java_ast.specs.declared.expression.BinOp.TheVariants as binary
use Rattle.java_token.specs.declared.token.Token.{Token}
use Rattle.java_grammar.specs.declared.part.Part.{Part}
use Rattle.java_grammar.specs.declared.part.Part.TheVariants as part
use Rattle.java_grammar.specs.Parts.{part_of}
use Rattle.java_grammar.specs.Tests.{angles}
use Rattle.java_grammar.specs.Marks.{Mark, Single, Angle, Group, Semi, Line}
use Rattle.java_grammar.specs.Expressions.{Operator}

-- how many closing angles the first part is
abbrev pub first_angles : List Part → ℕ
first_angles [] = 0
first_angles (p ∷ ps) = angles p

abbrev pub is_end : List Mark → Bool
is_end [] = true
is_end (m ∷ text) = false

-- what the token is that comes next
abbrev pub mark_part : Mark → Option Part
mark_part (Single token) = Some (part_of token)
mark_part (Angle more) = None
mark_part Group = None
mark_part Semi = None

abbrev pub front_part : List Mark → Option Part
front_part [] = None
front_part (m ∷ text) = mark_part m

abbrev pub mark_is_angle : Mark → Bool
mark_is_angle (Angle more) = true
mark_is_angle _ = false

abbrev pub is_angle : List Mark → Bool
is_angle [] = false
is_angle (m ∷ text) = mark_is_angle m

abbrev pub mark_is_group : Mark → Bool
mark_is_group Group = true
mark_is_group _ = false

-- a group in braces that is skipped comes next
abbrev pub is_group : List Mark → Bool
is_group [] = false
is_group (m ∷ text) = mark_is_group m

abbrev pub mark_is_semi : Mark → Bool
mark_is_semi Semi = true
mark_is_semi _ = false

-- the `;` that ends a segment comes next
abbrev pub is_semi : List Mark → Bool
is_semi [] = false
is_semi (m ∷ text) = mark_is_semi m

abbrev pub behind_mark : List Mark → List Mark
behind_mark [] = []
behind_mark (m ∷ text) = text

-- no token comes next, and nothing is read
pub record NothingRead (before after : List Mark) : Type 0 where
  pub none : front_part before ≡ None
  pub same : after ≡ before

-- this token came next, and what is behind it is left
abbrev pub IsRead : Token → List Mark → List Mark → Type 0
IsRead token before after = before ≡ Single token ∷ after

-- what an operator that is no angle is
abbrev pub binary_of : Part → Option BinOp
binary_of (part.Binary op) = Some op
binary_of _ = None

-- so many closing angles as an operator (JLS 15.19, 15.20.1)
abbrev pub angle_operator : ℕ → BinOp
angle_operator n =
    if n == 1 then binary.Greater
    else (if n == 2 then binary.ShiftRight else binary.ShiftRightUnsigned)

-- a text of the line came next, and what is behind it is left
pub record IsFront (line : Line) (before after : List Mark) : Type 0 where
  pub front : List Mark
  pub whole : before ≡ front ++ after
  pub spelled : line front

-- no operator came next, and nothing is read
pub record NoOperator (before after : List Mark) : Type 0 where
  pub none : (op : BinOp) (behind : List Mark) → IsFront (Operator op) before behind → ⊥
  pub same : after ≡ before
