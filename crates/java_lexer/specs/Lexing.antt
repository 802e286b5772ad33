-- The tokens of a text, and of the bytes of a source.
use Rattle.std.specs.Prelude.{ℕ, zero, suc, ◌+◌, Bool, List, [], ◌∷◌, ◌++◌, length, take, drop}
use Rattle.std.specs.Prelude.{Option, Some, None, Result, Ok, Err, if◌then◌else◌}
use Rattle.java_token.specs.declared.token.Token.{Token}
use Rattle.java_token.specs.declared.token.TokenKind.{TokenKind}
use Rattle.java_text.specs.Source.{text_of, is_all_utf8}
use Rattle.java_lexer.specs.declared.kind.Kind.{Kind}
use Rattle.java_lexer.specs.declared.fault.LexFault.{LexFault}
use Rattle.java_lexer.specs.declared.fault.LexKind.TheVariants.{Utf8, NoToken}
use Rattle.java_lexer.specs.LineTerminators.{line_ends}
use Rattle.java_lexer.specs.Pieces.{piece_at}
use Rattle.java_lexer.specs.Tokens.{token_of}

-- the line of the place behind these units: lines are numbered from 1
abbrev pub line_behind : List ℕ → ℕ
line_behind before = 1 + line_ends before

-- How far a text can be cut into longest pieces: the tokens among them with their lines, what was
-- cut, and what is left.
pub record Cut : Type 0 where
  pub tokens : List Token
  pub before : List ℕ
  pub rest : List ℕ

-- a piece's token, on this line, before those of the pieces behind it
abbrev pub with_token : Option TokenKind → ℕ → Cut → Cut
with_token None line cut = cut
with_token (Some kind) line cut =
    record {
      tokens = record { kind = kind; line = line } ∷ cut.tokens;
      before = cut.before;
      rest = cut.rest;
    }

abbrev pub ended : List ℕ → List ℕ → Cut
ended before units = record { tokens = []; before = before; rest = units }

-- the piece at the front, and the cut of what is behind it; or no piece
abbrev pub with_piece : Option (ℕ × Kind) → List ℕ → List ℕ → (List ℕ → List ℕ → Cut) → Cut
with_piece None before units further = ended before units
with_piece (Some piece) before units further =
    with_token (token_of piece.1 (take piece.0 units)) (line_behind before)
    (further (before ++ take piece.0 units) (drop piece.0 units))

-- the cut behind `before`, of at most n pieces
unfoldable pub cut_up_to : ℕ → List ℕ → List ℕ → Cut
cut_up_to zero before units = ended before units
cut_up_to (suc n) before [] = ended before []
cut_up_to (suc n) before (c ∷ units) =
    with_piece (piece_at (c ∷ units)) before (c ∷ units) (λ more rest. cut_up_to n more rest)

-- the cut of a whole text: no piece is empty, so there are no more of them than units
abbrev pub cut_of : List ℕ → Cut
cut_of units = cut_up_to (length units) [] units

-- The cut goes through, and all bytes are UTF-8. Else the bad place is where it can't go on, which
-- is no UTF-8 where no text is left.
abbrev pub verdict_at : List ℕ → List Token → ℕ → Bool → Result (List Token) LexFault
verdict_at [] tokens line whole =
    if whole then Ok tokens else Err (record { line = line; kind = Utf8 })
verdict_at (c ∷ rest) tokens line whole = Err (record { line = line; kind = NoToken })

abbrev pub verdict : Cut → Bool → Result (List Token) LexFault
verdict cut whole = verdict_at cut.rest cut.tokens (line_behind cut.before) whole

-- the tokens of the bytes, or the line and the kind of their bad place
unfoldable pub lexed : List ℕ → Result (List Token) LexFault
lexed bytes = verdict (cut_of (text_of bytes)) (is_all_utf8 bytes)
