-- The segments of a list of tokens whose brackets pair: the declarations of a unit (JLS 7.3) or of
-- a class body (JLS 8.1.7, 8.9.1, 8.10.2, 9.1.5), cut apart without their bodies.
use Rattle.std.specs.Prelude.{ℕ, zero, suc, Bool, true, false, not, ◌==◌, ◌&&◌, ◌||◌}
use Rattle.std.specs.Prelude.{if◌then◌else◌, List, [], ◌∷◌, ◌++◌, map, Option, Some, None}
use Rattle.std.specs.List.{list_any, after_last}
use Rattle.java_token.specs.declared.token.Token.{Token}
use Rattle.segments.specs.declared.bracket.Mark.{Mark}
use Rattle.segments.specs.declared.bracket.Mark.TheVariants.{Opening, Closing}
use Rattle.segments.specs.declared.bracket.Pair.TheVariants.{Braces}
use Rattle.segments.specs.declared.segment.Segment.{Segment}
use Rattle.segments.specs.declared.segment.SegEnd.{SegEnd}
use Rattle.segments.specs.declared.segment.SegEnd.TheVariants.{Semi, Body, Skipped, Tail}
use Rattle.segments.specs.Brackets.{mark_of, count, is_outside, some_token}
use Rattle.segments.specs.Places.{between, behind, items_at, written}
use Rattle.segments.specs.Words.{is_semicolon, is_assign, is_dot, is_default, begins_class}

-- ---- pieces

-- one token that is no bracket, or one group with its brackets
abbrev pub Piece : Type 0
Piece = List Token

abbrev pub is_outside_behind : List Token → Token → Bool
is_outside_behind before t = is_outside (before ++ t ∷ [])

abbrev pub whole : List Token × Token → Piece
whole (before, t) = before ++ t ∷ []

-- what stands between neighbouring places outside all brackets
abbrev pub pieces : List Token → List Piece
pieces tokens = map whole (between is_outside_behind tokens)

abbrev pub begins : (Token → Bool) → Piece → Bool
begins is [] = false
begins is (t ∷ ts) = is t

-- the last one of these pieces begins so
abbrev pub last_begins : (Token → Bool) → List Piece → Bool
last_begins is [] = false
last_begins is (p ∷ []) = begins is p
last_begins is (p ∷ q ∷ ps) = last_begins is (q ∷ ps)

abbrev pub mark_is_braces : Mark → Bool
mark_is_braces (Opening Braces) = true
mark_is_braces _ = false

abbrev pub mark_ends_braces : Mark → Bool
mark_ends_braces (Closing Braces) = true
mark_ends_braces _ = false

unfoldable pub opens_braces : Token → Bool
opens_braces token = mark_is_braces (mark_of token)

unfoldable pub closes_braces : Token → Bool
closes_braces token = mark_ends_braces (mark_of token)

-- ---- ends

-- a `=` outside brackets stands among these pieces
abbrev pub is_assigned : List Piece → Bool
is_assigned pieces = list_any (begins is_assign) pieces

-- one stands behind the last `;`
unfoldable pub is_assigned_since_semicolon : List Piece → Bool
is_assigned_since_semicolon before = is_assigned (after_last (begins is_semicolon) before)

-- the place behind `piece`, of a list that has the pieces `before` in front of it, is an end: the
-- piece is a `;`, or a group in braces that has no `default` right before it, and no `=` outside
-- brackets behind the last `;`. So a body ends a declaration (JLS 8.1.7, 8.4.7, 8.6 to 8.8, 8.10.4,
-- 9.1.5, 9.4.3) and the class body of an enum constant ends a segment (JLS 8.9.1), and an
-- initialiser (JLS 8.3) and the default value of an annotation's element (JLS 9.6.2) don't
abbrev pub is_end : List Piece → Piece → Bool
is_end before piece =
    begins is_semicolon piece || (begins opens_braces piece
    && not (is_assigned_since_semicolon before || last_begins is_default before))

-- ---- heads

-- the place behind these tokens is in no group in braces
abbrev pub is_outside_braces : List Token → Bool
is_outside_braces before = count opens_braces before == count closes_braces before

-- the token behind these stands in no group in braces, or is a brace of the outermost such group
abbrev pub borders_outside : List Token → Token → Bool
borders_outside before t = is_outside_braces before || is_outside_braces (before ++ t ∷ [])

unfoldable pub braces_alone : List Token → List Token
braces_alone tokens = items_at borders_outside tokens

-- a piece behind these ones, in a head: behind a `=` outside brackets, in an initialiser (JLS
-- 8.3), each group in braces is its two braces alone
abbrev pub piece_in_head : List Piece → Piece → List Token
piece_in_head before piece = if is_assigned before then braces_alone piece else piece

abbrev pub head_of : List Piece → List Token
head_of pieces = written piece_in_head pieces

abbrev pub ends_in_dot : List Token → Bool
ends_in_dot [] = false
ends_in_dot (t ∷ []) = is_dot t
ends_in_dot (t ∷ u ∷ ts) = ends_in_dot (u ∷ ts)

-- at a place outside brackets and not behind `.` stands what makes a declaration one of a class
abbrev pub declares_class : List Token → List Token → Bool
declares_class before behind = is_outside before && not (ends_in_dot before) && begins_class behind

-- the group behind this head is a class body (JLS 8.1, 8.9, 8.10, 9.1, 9.6)
unfoldable pub is_class_head : List Token → Bool
is_class_head head = some_token (λ before t behind. declares_class before (t ∷ behind)) head

-- ---- the cut

abbrev pub without_last : List Token → List Token
without_last [] = []
without_last (t ∷ []) = []
without_last (t ∷ u ∷ ts) = t ∷ without_last (u ∷ ts)

abbrev pub line_of : List Token → ℕ
line_of [] = 0
line_of (t ∷ ts) = t.line

-- the end that a piece is behind a head, where `body` says what becomes of the tokens in a class
-- body
abbrev pub end_of : (ℕ → List Token → SegEnd) → List Token → Piece → SegEnd
end_of body head [] = Semi
end_of body head (t ∷ ts) =
    if is_semicolon t then Semi
    else (if is_class_head head then body t.line (without_last ts) else Skipped t.line)

abbrev pub segment_of : (ℕ → List Token → SegEnd) → List Piece × Piece → Segment
segment_of body part = record { head = head_of part.0; end = end_of body (head_of part.0) part.1 }

-- what is left at the end, if it isn't empty
abbrev pub tail_of : List Token → List Segment
tail_of [] = []
tail_of (t ∷ ts) = record { head = t ∷ ts; end = Tail } ∷ []

abbrev pub cut_by : (ℕ → List Token → SegEnd) → List Token → List Segment
cut_by body tokens =
    map (segment_of body) (between is_end (pieces tokens))
    ++ tail_of (head_of (behind is_end (pieces tokens)))

-- the segments, where a class body in more than `most` class bodies, itself counted, is left uncut
unfoldable pub cut_within : ℕ → List Token → List Segment
cut_within zero tokens = cut_by (λ line inside. Skipped line) tokens
cut_within (suc most) tokens = cut_by (λ line inside. Body (cut_within most inside)) tokens

-- ---- depth

abbrev pub first_some : List (Option ℕ) → Option ℕ
first_some [] = None
first_some (None ∷ rest) = first_some rest
first_some (Some line ∷ rest) = Some line

abbrev pub depth_of : (ℕ → List Token → Option ℕ) → List Piece × Piece → Option ℕ
depth_of body (before, []) = None
depth_of body (before, t ∷ ts) =
    if is_semicolon t then None
    else (if is_class_head (head_of before) then body (line_of (head_of before)) (without_last ts)
    else None)

abbrev pub deep_by : (ℕ → List Token → Option ℕ) → List Token → Option ℕ
deep_by body tokens = first_some (map (depth_of body) (between is_end (pieces tokens)))

-- the line of the head of the first class body that stands in more than `most`, itself counted
unfoldable pub deep_beyond : ℕ → List Token → Option ℕ
deep_beyond zero tokens = deep_by (λ line inside. Some line) tokens
deep_beyond (suc most) tokens = deep_by (λ line inside. deep_beyond most inside) tokens
