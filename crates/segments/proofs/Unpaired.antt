-- The brackets that are left where neighbouring pairs are taken out again and again.
use Rattle.std.proofs.Common.{ℕ, Bool, false, if◌then◌else◌, List, [], ◌∷◌, Option, Some, None}
use Rattle.java_token.specs.declared.token.Token.{Token}
use Rattle.segments.specs.declared.bracket.Pair.{Pair}
use Rattle.segments.specs.declared.bracket.Mark.{Mark}
use Rattle.segments.specs.declared.bracket.Mark.TheVariants.{Opening, Closing, Plain}
use Rattle.segments.specs.Brackets.{mark_of, same_pair, is_closing}

-- a token as a bracket, and its line
pub record Bracket : Type 0 where
  pub mark : Mark
  pub line : ℕ

abbrev pub bracket_of : Token → Bracket
bracket_of token = record { mark = mark_of token; line = token.line }

abbrev pub is_closed_by : Pair → Mark → Bool
is_closed_by pair (Closing other) = same_pair pair other
is_closed_by pair _ = false

-- a bracket in front of brackets of which none pair
abbrev pub in_front : Mark → ℕ → List Bracket → List Bracket
in_front Plain line left = left
in_front (Closing pair) line left = record { mark = Closing pair; line = line } ∷ left
in_front (Opening pair) line [] = record { mark = Opening pair; line = line } ∷ []
in_front (Opening pair) line (next ∷ left) =
    if is_closed_by pair next.mark then left
    else record { mark = Opening pair; line = line } ∷ next ∷ left

-- the brackets that are left when each opening one right before a closing one of its pair is taken
-- out together with that, until there are no two such
abbrev pub unpaired : List Bracket → List Bracket
unpaired [] = []
unpaired (b ∷ bs) = in_front b.mark b.line (unpaired bs)

abbrev pub first_line : List Bracket → Option ℕ
first_line [] = None
first_line (b ∷ bs) = Some b.line

-- the line of the first closing one, else of the first one
abbrev pub first_wrong : List Bracket → Option ℕ → Option ℕ
first_wrong [] otherwise = otherwise
first_wrong (b ∷ bs) otherwise = if is_closing b.mark then Some b.line
    else first_wrong bs otherwise
