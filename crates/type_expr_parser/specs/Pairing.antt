-- Brackets that pair, of whatever kind, and marks before one that doesn't.
use Rattle.std.specs.Prelude.{◌≡◌, ℕ, zero, suc, ◌-◌, ◌==◌, ◌&&◌, Bool, true, false, List, [], ◌∷◌}
use Rattle.std.specs.Prelude.{◌++◌}
use Rattle.std.specs.Prelude.{Option, Some, None}
use Rattle.java_grammar.specs.Tests.{is_opening}
use Rattle.java_grammar.specs.declared.part.Part.{Part}
use Rattle.java_grammar.specs.declared.part.Part.TheVariants as part
use Rattle.java_grammar.specs.Parts.{part_of}
use Rattle.java_grammar.specs.Marks.{Mark, Single, Angle, Group, Semi}
use Rattle.type_expr_parser.specs.Reading.{◌>>=◌}

abbrev pub is_bracket : Part → Bool
is_bracket (part.Opening q) = true
is_bracket (part.Closing q) = true
is_bracket _ = false

-- how many brackets are open behind a part, where so many were before; none where one closes that
-- wasn't open
abbrev pub close_one : ℕ → Option ℕ
close_one zero = None
close_one (suc d) = Some d

abbrev pub step_part : ℕ → Part → Option ℕ
step_part d (part.Opening q) = Some (suc d)
step_part d (part.Closing q) = close_one d
step_part d _ = Some d

abbrev pub step_depth : ℕ → Mark → Option ℕ
step_depth d (Single t) = step_part d (part_of t)
step_depth d (Angle more) = Some d
step_depth d Group = Some d
step_depth d Semi = Some d

abbrev pub depth_behind : ℕ → List Mark → Option ℕ
depth_behind d [] = Some d
depth_behind d (m ∷ text) = step_depth d m >>= λ e. depth_behind e text

-- the brackets of the text pair
abbrev pub Balanced : List Mark → Type 0
Balanced text = (d : ℕ) → depth_behind d text ≡ Some d

-- how many closing brackets of a text have their partner before it
abbrev pub more_closing : Part → ℕ → ℕ
more_closing (part.Opening q) n = n - 1
more_closing (part.Closing q) n = suc n
more_closing _ n = n

abbrev pub closing_mark : Mark → ℕ → ℕ
closing_mark (Single t) n = more_closing (part_of t) n
closing_mark (Angle more) n = n
closing_mark Group n = n
closing_mark Semi n = n

abbrev pub closing_in : List Mark → ℕ
closing_in [] = 0
closing_in (m ∷ text) = closing_mark m (closing_in text)

-- an opening bracket, where none behind it is left to close it
abbrev pub is_unclosed : ℕ → Part → Bool
is_unclosed closing p = is_opening p && (closing == 0)

-- each front whose brackets pair stands among these marks
abbrev pub HasBalanced : List Mark → List Mark → Type 0
HasBalanced whole some = (front left : List Mark) → Balanced front → whole ≡ front ++ left
    → (more : List Mark) × (some ≡ front ++ more)
