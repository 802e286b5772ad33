-- The counts that bound how deep a declaration nests: each part of a source that is read with
-- recursion stays within them. All are functions of the parts of a list of tokens: of the head of
-- a segment, or of tokens that are handed to be read as a type, an annotation or an expression.
-- They are counts of all tokens, also of those that spell nothing.
use Rattle.std.specs.Prelude.{ℕ, zero, suc, ◌+◌, ◌-◌, ◌==◌, Bool, true, false, ◌&&◌, ◌||◌, not}
use Rattle.std.specs.Prelude.{nat_le, if◌then◌else◌, List, [], ◌∷◌, map, take, drop, count_by}
use Rattle.std.specs.Prelude.{Option, Some, None}
use Rattle.std.specs.List.{list_all, list_any, scan, zip}
use Rattle.segments.specs.Places.{behind_item}
use Rattle.java_grammar.specs.declared.part.Part.{Part}
use Rattle.java_grammar.specs.declared.part.Part.TheVariants as part
use Rattle.java_grammar.specs.declared.part.ModifierWord.TheVariants as modifier
use Rattle.java_grammar.specs.declared.part.Pair.TheVariants as pair
use Rattle.java_ast.specs.declared.expression.BinOp.TheVariants as binary
use Rattle.java_grammar.specs.declared.counts.TheConstants.{MOST_NESTED, MOST_COUNTED}
use Rattle.java_grammar.specs.Tests.{is_opening, is_closing, is_group_start, is_word, is_at}
use Rattle.java_grammar.specs.Tests.{is_less, angles}
use Rattle.java_grammar.specs.Extents.{name_from, group_from, annotation_from, extent_of}

-- ---- depths

-- how many angles are open behind a part, where `depth` were open before; never fewer than none
abbrev pub angle_depth : ℕ → Part → ℕ
angle_depth depth p = if is_less p then depth + 1 else depth - angles p

-- the same of brackets, of whatever kind
abbrev pub bracket_depth : ℕ → Part → ℕ
bracket_depth depth p =
    if is_opening p then depth + 1 else (if is_closing p then depth - 1 else depth)

abbrev pub is_nested : ℕ → Bool
is_nested depth = nat_le depth MOST_NESTED

-- ---- the places of a head

-- a part, how many brackets are open before it, what stands behind it, and how many parts of that
-- are left out
pub record Place : Type 0 where
  pub depth : ℕ
  pub part : Part
  pub behind : List Part
  pub unread : ℕ

-- the places of a list without what is left out behind each, where `depth` brackets are open and
-- the first `skip` parts are left out
abbrev pub places : (ℕ → Part → List Part → ℕ) → ℕ → ℕ → List Part → List Place
places unread depth skip [] = []
places unread depth (suc skip) (p ∷ ps) = places unread depth skip ps
places unread depth zero (p ∷ ps) =
    record { depth = depth; part = p; behind = ps; unread = unread depth p ps }
    ∷ places unread (bracket_depth depth p) (unread depth p ps) ps

abbrev pub is_assign : Part → Bool
is_assign part.Assign = true
is_assign _ = false

-- an initialiser begins behind each `=` outside brackets (JLS 8.3). Tokens that are handed to be
-- read as a type or as an annotation have none
abbrev pub extent_behind : Bool → ℕ → Part → List Part → ℕ
extent_behind in_head depth p ps =
    if in_head && (is_assign p && (depth == 0)) then extent_of ps else 0

-- initialisers, and the names and groups of annotations
abbrev pub unread_behind : Bool → ℕ → Part → List Part → ℕ
unread_behind in_head depth p ps =
    if is_at p then annotation_from ps else extent_behind in_head depth p ps

-- the places outside initialisers
abbrev pub outside : Bool → List Part → List Place
outside in_head ps = places (extent_behind in_head) 0 0 ps

-- those of them that are no annotation's but for its `@`
abbrev pub bare : Bool → List Part → List Place
bare in_head ps = places (unread_behind in_head) 0 0 ps

-- ---- nesting

-- at no place are more angles open than the limit
abbrev pub angles_nest : List Part → Bool
angles_nest ps = list_all is_nested (scan angle_depth angle_depth 0 ps)

-- behind no place outside initialisers are more brackets open than the limit
abbrev pub brackets_nest : Bool → List Part → Bool
brackets_nest in_head ps = list_all (λ at. is_nested (bracket_depth at.depth at.part))
    (outside in_head ps)

-- ---- what is counted in an expression

-- `+`, `-`, `!` and `~`
abbrev pub is_prefix : Part → Bool
is_prefix (part.Binary binary.Plus) = true
is_prefix (part.Binary binary.Minus) = true
is_prefix (part.Unary op) = true
is_prefix _ = false

abbrev pub is_question : Part → Bool
is_question part.Question = true
is_question _ = false

-- behind an operator (JLS 3.12) and behind `(` one of these is a prefix operator (JLS 15.15), and
-- so it is in front
abbrev pub takes_prefix : Part → Bool
takes_prefix (part.Binary op) = true
takes_prefix (part.Unary op) = true
takes_prefix part.Assign = true
takes_prefix part.OtherOperator = true
takes_prefix (part.Opening pair.Parentheses) = true
takes_prefix part.Question = true
takes_prefix part.Colon = true
takes_prefix _ = false

-- `(`, `?` and prefix operators are counted
abbrev pub is_counted : Bool → Part → Bool
is_counted may_prefix p = is_group_start p || (is_question p || (may_prefix && is_prefix p))

-- each part, with whether a prefix operator may stand there
abbrev pub with_prefixes : Bool → List Part → List (Bool × Part)
with_prefixes may_prefix ps = zip (may_prefix ∷ map takes_prefix ps) ps

abbrev pub count_of : List Part → ℕ
count_of ps = count_by (λ at. is_counted at.0 at.1) (with_prefixes true ps)

-- not more than the limit are counted
abbrev pub is_short : List Part → Bool
is_short ps = nat_le (count_of ps) MOST_COUNTED

-- ---- plain initialisers

-- literals, words, primitive types, `.`, `?`, `:`, parentheses and the operators of constant
-- expressions (JLS 15.29)
abbrev pub is_plain_part : Part → Bool
is_plain_part part.Literal = true
is_plain_part part.Word = true
is_plain_part part.Sealed = true
is_plain_part (part.Primitive p) = true
is_plain_part part.Dot = true
is_plain_part part.Question = true
is_plain_part part.Colon = true
is_plain_part (part.Opening pair.Parentheses) = true
is_plain_part (part.Closing pair.Parentheses) = true
is_plain_part (part.Binary op) = true
is_plain_part (part.Unary op) = true
is_plain_part _ = false

-- a call: a `(` right behind a word
abbrev pub is_call : Bool → Part → Bool
is_call behind_word p = behind_word && is_group_start p

-- each part, with whether it stands right behind a word
abbrev pub with_words : Bool → List Part → List (Bool × Part)
with_words behind_word ps = zip (behind_word ∷ map is_word ps) ps

abbrev pub calls_nothing : Bool → List Part → Bool
calls_nothing behind_word ps = list_all (λ at. not (is_call at.0 at.1)) (with_words behind_word ps)

-- the initialiser may be a constant expression
unfoldable pub is_plain : List Part → Bool
is_plain ps = list_all is_plain_part ps && calls_nothing false ps

-- a plain one is short; another may have any length
abbrev pub extent_fits : List Part → Bool
extent_fits ps = not (is_plain ps) || is_short ps

abbrev pub extents_fit : List Part → Bool
extents_fit ps = list_all (λ at. extent_fits (take at.unread at.behind)) (outside true ps)

-- ---- values of elements

-- a value of an element that is an expression has none of these (JLS 9.7.1)
abbrev pub ends_run : Part → Bool
ends_run (part.Opening pair.Braces) = true
ends_run (part.Closing pair.Braces) = true
ends_run part.Comma = true
ends_run part.Assign = true
ends_run part.At = true
ends_run _ = false

abbrev pub prepend : Part → List (List Part) → List (List Part)
prepend p [] = (p ∷ []) ∷ []
prepend p (run ∷ runs) = (p ∷ run) ∷ runs

-- what stands between these: where values of elements stand, the expressions among them
abbrev pub runs_of : List Part → List (List Part)
runs_of [] = [] ∷ []
runs_of (p ∷ ps) = if ends_run p then [] ∷ runs_of ps else prepend p (runs_of ps)

-- the values of elements in a list are short; those of an annotation in it are looked at by
-- themselves
unfoldable pub values_fit : Bool → List Part → Bool
values_fit in_head ps = list_all is_short (runs_of (map (λ at. at.part) (bare in_head ps)))

-- inside a group
abbrev pub inside_group : List Part → List Part
inside_group [] = []
inside_group (p ∷ ps) = if is_group_start p then take (group_from ps - 1) ps else []

abbrev pub group_behind_name : List Part → List Part
group_behind_name ps = inside_group (drop (name_from ps) ps)

-- behind a `@`: what stands in the group of the annotation's elements
abbrev pub elements_inside : List Part → List Part
elements_inside [] = []
elements_inside (p ∷ ps) = if is_word p then group_behind_name ps else []

abbrev pub elements_behind : Part → List Part → List Part
elements_behind p ps = if is_at p then elements_inside ps else []

-- the elements of each annotation outside initialisers, also of one in another
abbrev pub annotations_fit : Bool → List Part → Bool
annotations_fit in_head ps = list_all (λ at. values_fit false (elements_behind at.part at.behind))
    (outside in_head ps)

abbrev pub is_default : Part → Bool
is_default (part.Modifier modifier.Default) = true
is_default _ = false

-- a `default` outside brackets that has a group before it (JLS 9.6.2)
abbrev pub begins_value : List Place → Place → Bool
begins_value before at =
    is_default at.part && ((at.depth == 0) && list_any (λ b. is_group_start b.part) before)

-- the first one of which this is true, by what stands before it
abbrev pub first_of : {X : Type 0} → (List X → X → Bool) → List X → Option X
first_of is [] = None
first_of is (x ∷ xs) = if is [] x then Some x else first_of (behind_item is x) xs

abbrev pub behind_place : Option Place → List Part
behind_place None = []
behind_place (Some at) = at.behind

-- behind the first such `default`
unfoldable pub default_value : List Place → List Part
default_value places = behind_place (first_of begins_value places)

abbrev pub default_fits : Bool → List Part → Bool
default_fits in_head ps = values_fit in_head (default_value (bare in_head ps))

-- ---- all of them

-- of the head of a segment
unfoldable pub head_fits : List Part → Bool
head_fits ps =
    angles_nest ps && (brackets_nest true ps
    && (extents_fit ps && (annotations_fit true ps && default_fits true ps)))

-- of tokens that are handed to be read as a type or as an annotation
unfoldable pub tokens_fit : List Part → Bool
tokens_fit ps =
    angles_nest ps && (brackets_nest false ps
    && (annotations_fit false ps && default_fits false ps))

-- of tokens that are handed to be read as an expression: they count as one plain initialiser
unfoldable pub expression_fits : List Part → Bool
expression_fits ps = angles_nest ps && is_short ps
