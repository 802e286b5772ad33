-- The ends, said segment by segment.
use Rattle.std.specs.Prelude.{◌≡◌, Bool, true, false, not, ◌&&◌, ◌||◌, List, [], ◌∷◌, ◌++◌}
use Rattle.segments.specs.Words.{is_semicolon, is_default}
use Rattle.segments.specs.Places.{has_place}
use Rattle.segments.specs.Cut.{Piece, begins, is_assigned, last_begins, opens_braces}

-- a segment whose pieces are `before` and then `piece` ends behind `piece`:
-- a `;`, or a group in braces with no `=` before it in the segment and no `default` right before
-- it
abbrev pub ends : List Piece → Piece → Bool
ends before piece = begins is_semicolon piece
    || (begins opens_braces piece && not (is_assigned before || last_begins is_default before))

-- these pieces are segments that end, each time the pieces before the end and the piece that ends
-- them, and then others: the first segment is what stands up to the first piece behind which it
-- ends, and so are those behind it
pub data AreSegments : List Piece → List (List Piece × Piece) → List Piece → Type 0 where
  no_end : (rest : List Piece) → has_place ends rest ≡ false → AreSegments rest [] rest
  first : (before : List Piece) (piece : Piece) (behind : List Piece)
      (segments : List (List Piece × Piece)) (rest : List Piece)
      → has_place ends before ≡ false → ends before piece ≡ true → AreSegments behind segments rest
      → AreSegments (before ++ piece ∷ behind) ((before, piece) ∷ segments) rest
