-- The extent of an initialiser (JLS 8.3.2), found without reading it: the row of pieces at its
-- front, where a comma is no piece. A piece is a group in brackets, an annotation, a token with
-- the type behind it, a type before `::`, or a single token. All are functions of the parts of a
-- list of tokens, those behind the `=`; each answers how many parts it has at the front, and 0
-- where it isn't there.
use Rattle.std.specs.Prelude.{ℕ, zero, suc, ◌+◌, ◌-◌, ◌==◌, Bool, false, ◌&&◌, nat_lt, count_by}
use Rattle.std.specs.Prelude.{if◌then◌else◌, List, [], ◌∷◌, Option, Some, None}
use Rattle.std.proofs.Common.{drop}
use Rattle.segments.specs.Places.{behind_item}
use Rattle.java_grammar.specs.declared.part.Part.{Part}
use Rattle.java_grammar.specs.declared.type_arguments.Angled.{Angled}
use Rattle.java_grammar.specs.declared.type_arguments.AngleStep.{AngleStep}
use Rattle.java_grammar.specs.declared.type_arguments.AngleStep.TheVariants as angle
use Rattle.java_grammar.specs.Tests.{is_opening, is_closing, is_group_start, is_bracket_start}
use Rattle.java_grammar.specs.Tests.{is_bracket_end, is_dot, is_word, is_sealed, is_primitive}
use Rattle.java_grammar.specs.Tests.{is_at, is_final, is_comma, is_less, is_double_colon}
use Rattle.java_grammar.specs.Tests.{is_instanceof, begins_type_behind, is_in_type_arguments}
use Rattle.java_grammar.specs.Tests.{angles}

abbrev pub one_more : Option ℕ → Option ℕ
one_more None = None
one_more (Some n) = Some (suc n)

abbrev pub or_none : Option ℕ → ℕ
or_none None = 0
or_none (Some n) = n

-- ---- rows

abbrev pub passing : ℕ → (ℕ → ℕ) → ℕ
passing zero behind = 0
passing (suc more) behind = suc (behind more)

-- the first `skip` parts stand in the row already
abbrev pub row_from : (List Part → ℕ) → ℕ → List Part → ℕ
row_from piece skip [] = 0
row_from piece (suc skip) (p ∷ ps) = suc (row_from piece skip ps)
row_from piece zero (p ∷ ps) = passing (piece (p ∷ ps)) (λ more. row_from piece more ps)

-- pieces one behind the other, as long as there are some
abbrev pub row_of : (List Part → ℕ) → List Part → ℕ
row_of piece ps = row_from piece 0 ps

-- the one, there or not, and the other behind it
abbrev pub and_behind : (List Part → ℕ) → (List Part → ℕ) → List Part → ℕ
and_behind one other ps = one ps + other (drop (one ps) ps)

-- the one, and only where it is there the other behind it
abbrev pub continued : ℕ → (List Part → ℕ) → List Part → ℕ
continued zero other ps = 0
continued (suc n) other ps = suc n + other (drop (suc n) ps)

-- the one, and where it is there, what stands behind its last part, by that part
abbrev pub with_last : ℕ → (List Part → ℕ) → List Part → ℕ
with_last zero other ps = 0
with_last (suc n) other ps = suc n + other (drop n ps)

-- so many more before something, where that is there
abbrev pub before : ℕ → ℕ → ℕ
before n zero = 0
before n (suc m) = n + suc m

-- ---- groups

-- how many there are up to the first one of which this is true, by what stands before it, itself
-- counted
abbrev pub up_to_first : {X : Type 0} → (List X → X → Bool) → List X → Option ℕ
up_to_first is [] = None
up_to_first is (x ∷ xs) = if is [] x then Some 1 else one_more (up_to_first (behind_item is x) xs)

-- a closing bracket behind these, as many opening as closing ones among them, of whatever kind
abbrev pub is_partner : List Part → Part → Bool
is_partner between p =
    is_closing p && (count_by is_opening between == count_by is_closing between)

-- behind an opening bracket: how many parts stand up to its partner, itself counted
unfoldable pub partner_of : List Part → Option ℕ
partner_of ps = up_to_first is_partner ps

-- how many parts behind an opening bracket are passed with it: up to its partner, and none where
-- it has none
unfoldable pub group_from : List Part → ℕ
group_from ps = or_none (partner_of ps)

-- ---- annotations

abbrev pub is_further_word : List Part → Bool
is_further_word [] = false
is_further_word (p ∷ []) = false
is_further_word (p ∷ q ∷ ps) = is_dot p && is_word q

-- behind a word of a name: how many parts its further words have, with the dots before them (JLS
-- 6.5)
abbrev pub name_from : List Part → ℕ
name_from [] = 0
name_from (p ∷ []) = 0
name_from (p ∷ q ∷ ps) = if is_dot p && is_word q then suc (suc (name_from ps)) else 0

-- the group of an annotation's elements, unread (JLS 9.7.1)
abbrev pub elements_from : List Part → ℕ
elements_from [] = 0
elements_from (p ∷ ps) = if is_group_start p then or_none (one_more (partner_of ps)) else 0

abbrev pub name_and_elements_from : List Part → ℕ
name_and_elements_from ps = name_from ps + elements_from (drop (name_from ps) ps)

-- behind a `@`: how many parts an annotation has, its name and the group behind it (JLS 9.7); 0
-- where there is none
unfoldable pub annotation_from : List Part → ℕ
annotation_from [] = 0
annotation_from (p ∷ ps) = if is_word p then suc (name_and_elements_from ps) else 0

-- an annotation, with its `@`
unfoldable pub annotation_at : List Part → ℕ
annotation_at [] = 0
annotation_at (p ∷ ps) = if is_at p then before 1 (annotation_from ps) else 0

unfoldable pub annotations_from : List Part → ℕ
annotations_from ps = row_of annotation_at ps

-- annotations and what stands behind them, where that is there
unfoldable pub annotated_from : (List Part → ℕ) → List Part → ℕ
annotated_from piece ps = before (annotations_from ps) (piece (drop (annotations_from ps) ps))

-- ---- type arguments

-- what a part is in type arguments (JLS 4.5.1) with `depth` angles open: it goes on them with so
-- many angles open, perhaps with parts behind it, or closes them, with so many angles of its
-- token left, or doesn't stand in them
abbrev pub closing_angles : ℕ → ℕ → AngleStep
closing_angles closed depth =
    if nat_lt closed depth then angle.GoesOn (depth - closed) 0 else angle.Closes (closed - depth)

-- an annotation is passed where there is one
abbrev pub annotated_angles : ℕ → ℕ → AngleStep
annotated_angles depth more = if nat_lt 0 more then angle.GoesOn depth more else angle.Stops

abbrev pub begins_with_bracket_end : List Part → Bool
begins_with_bracket_end [] = false
begins_with_bracket_end (p ∷ ps) = is_bracket_end p

-- `[` stands there with its `]` alone
abbrev pub dimension_step : ℕ → List Part → AngleStep
dimension_step depth ps = if begins_with_bracket_end ps then angle.GoesOn depth 1 else angle.Stops

unfoldable pub angle_step : ℕ → Part → List Part → AngleStep
angle_step depth p ps =
    if is_in_type_arguments p then angle.GoesOn depth 0
    else (if is_bracket_start p then dimension_step depth ps
    else (if is_less p then angle.GoesOn (depth + 1) 0
    else (if nat_lt 0 (angles p) then closing_angles (angles p) depth
    else (if is_at p then annotated_angles depth (annotation_from ps)
    else angle.Stops))))

abbrev pub one_more_angled : Option Angled → Option Angled
one_more_angled None = None
one_more_angled (Some a) = Some (record { count = suc a.count; left = a.left })

abbrev pub angled_by : AngleStep → (ℕ → ℕ → Option Angled) → Option Angled
angled_by (angle.GoesOn depth more) behind = one_more_angled (behind depth more)
angled_by (angle.Closes left) behind = Some (record { count = 1; left = left })
angled_by angle.Stops behind = None

-- type arguments with `depth` angles open, the first `skip` parts passed already: how many parts
-- they have up to the token that closes them, and how many angles of that are left; or that they
-- aren't closed
abbrev pub angled_from : ℕ → ℕ → List Part → Option Angled
angled_from depth skip [] = None
angled_from depth (suc skip) (p ∷ ps) = one_more_angled (angled_from depth skip ps)
angled_from depth zero (p ∷ ps) = angled_by (angle_step depth p ps)
    (λ now more. angled_from now more ps)

-- behind a `<`
unfoldable pub type_arguments_from : List Part → Option Angled
type_arguments_from ps = angled_from 1 0 ps

-- type arguments, with their `<`
unfoldable pub arguments_at : List Part → Option Angled
arguments_at [] = None
arguments_at (p ∷ ps) = if is_less p then one_more_angled (type_arguments_from ps) else None

-- where their last token ends with them
abbrev pub whole_arguments : Option Angled → ℕ
whole_arguments None = 0
whole_arguments (Some a) = if a.left == 0 then a.count else 0

-- where angles of their last token are left
abbrev pub split_arguments : Option Angled → ℕ
split_arguments None = 0
split_arguments (Some a) = if a.left == 0 then 0 else a.count

-- ---- types (JLS 4.3, 10.1), whose type arguments end with a token

-- a word with its type arguments, if any
unfoldable pub word_from : List Part → ℕ
word_from [] = 0
word_from (p ∷ ps) = if is_word p then suc (whole_arguments (arguments_at ps)) else 0

-- a dot, annotations and a further word
unfoldable pub further_at : List Part → ℕ
further_at [] = 0
further_at (p ∷ ps) = if is_dot p then before 1 (annotated_from word_from ps) else 0

-- `sealed` begins a type only where a further word follows it (JLS 3.9)
abbrev pub sealed_from : ℕ → ℕ
sealed_from zero = 0
sealed_from (suc more) = 1

unfoldable pub first_from : List Part → ℕ
first_from [] = 0
first_from (p ∷ ps) = if is_sealed p then sealed_from (further_at ps) else word_from (p ∷ ps)

unfoldable pub named_from : List Part → ℕ
named_from ps = continued (first_from ps) (row_of further_at) ps

-- a dimension, with annotations before it
abbrev pub brackets_at : List Part → ℕ
brackets_at [] = 0
brackets_at (p ∷ ps) = if is_bracket_start p && begins_with_bracket_end ps then 2 else 0

unfoldable pub dimension_at : List Part → ℕ
dimension_at ps = annotated_from brackets_at ps

-- a primitive type or a name, with its dimensions
unfoldable pub base_from : List Part → ℕ
base_from [] = 0
base_from (p ∷ ps) = if is_primitive p then 1 else named_from (p ∷ ps)

unfoldable pub type_from : List Part → ℕ
type_from ps = continued (base_from ps) (row_of dimension_at) ps

-- ---- pieces

-- the longest type behind `new` and the like, but for its dimensions, which are pieces of their
-- own: here the type arguments of its last word may end inside a token, and then nothing of it
-- follows. A type that ends with type arguments has no others behind them
abbrev pub split_behind : List Part → ℕ
split_behind [] = 0
split_behind (p ∷ ps) = if is_word p then split_arguments (arguments_at ps) else 0

abbrev pub split_named_from : List Part → ℕ
split_named_from ps = with_last (named_from ps) split_behind ps

unfoldable pub longest_from : List Part → ℕ
longest_from [] = 0
longest_from (p ∷ ps) = if is_primitive p then 1 else split_named_from (p ∷ ps)

abbrev pub typed_by : Option Angled → List Part → ℕ
typed_by None ps = annotated_from longest_from ps
typed_by (Some a) ps =
    if a.left == 0 then a.count + annotated_from longest_from (drop a.count ps) else a.count

-- type arguments, annotations and a type, each if it is there
unfoldable pub typed_from : List Part → ℕ
typed_from ps = typed_by (arguments_at ps) ps

abbrev pub final_at : List Part → ℕ
final_at [] = 0
final_at (p ∷ ps) = if is_final p then 1 else 0

-- `final`, and annotations
abbrev pub modifiers_from : List Part → ℕ
modifiers_from ps = and_behind final_at annotations_from ps

-- the modifiers of a pattern, in any order (JLS 14.30.1)
abbrev pub pattern_modifiers_from : List Part → ℕ
pattern_modifiers_from ps = and_behind annotations_from modifiers_from ps

-- behind `new`, `.` and `::` (JLS 15.9, 15.10.1, 15.11, 15.12, 15.13)
unfoldable pub behind_from : List Part → ℕ
behind_from ps = and_behind modifiers_from typed_from ps

-- behind `instanceof` (JLS 15.20.2)
unfoldable pub pattern_from : List Part → ℕ
pattern_from ps = and_behind pattern_modifiers_from typed_from ps

abbrev pub begins_with_double_colon : List Part → Bool
begins_with_double_colon [] = false
begins_with_double_colon (p ∷ ps) = is_double_colon p

abbrev pub referred_by : ℕ → List Part → ℕ
referred_by n ps = if begins_with_double_colon (drop n ps) then n else 1

-- at a word: a type before `::` (JLS 15.13), else the word alone
unfoldable pub referred_from : List Part → ℕ
referred_from ps = referred_by (type_from ps) ps

unfoldable pub piece_at : List Part → ℕ
piece_at [] = 0
piece_at (p ∷ ps) =
    if is_comma p then 0
    else (if is_opening p then suc (group_from ps)
    else (if is_at p then suc (annotation_from ps)
    else (if is_instanceof p then suc (pattern_from ps)
    else (if begins_type_behind p then suc (behind_from ps)
    else (if is_word p then referred_from (p ∷ ps)
    else 1)))))

-- how many parts the initialiser at the front has
unfoldable pub extent_of : List Part → ℕ
extent_of ps = row_of piece_at ps
