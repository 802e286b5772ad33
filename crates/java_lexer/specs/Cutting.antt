-- What private functions do that cut a text. Only their contracts cite it.
use Rattle.std.specs.Prelude.{◌≡◌, ℕ, ◌≤◌, ◌+◌, Bool, ◌&&◌, ◌||◌, not, ◌==◌, List, [], ◌∷◌}
use Rattle.std.specs.Prelude.{length, take, drop, Option, Some, None, if◌then◌else◌}
use Rattle.java_token.specs.declared.token.Token.{Token}
use Rattle.java_token.specs.declared.token.TokenKind.{TokenKind}
use Rattle.java_text.specs.declared.character.TheConstants.{CARRIAGE_RETURN, LINE_FEED}
use Rattle.java_lexer.specs.declared.cut.Cut.{Cut}
use Rattle.java_lexer.specs.LineTerminators.{line_ends}
use Rattle.java_lexer.specs.Lexing.{cut_of}

-- the answer is the cut of these units
pub record IsCut (units : List ℕ) (cut : Cut) : Type 0 where
  pub tokens : cut.tokens.items ≡ (cut_of units).tokens
  pub before : take cut.at units ≡ (cut_of units).before
  pub rest : drop cut.at units ≡ (cut_of units).rest
  pub within : cut.at ≤ length units
  pub counted : cut.line_ends ≡ line_ends (take cut.at units)
  pub bound : cut.line_ends ≤ cut.at

-- how many line terminators begin in the units: an LF right behind a CR begins none, and the flag
-- says that a CR stands right before the units
unfoldable pub ends_begun : Bool → List ℕ → ℕ
ends_begun after_return [] = 0
ends_begun after_return (c ∷ units) =
    (if c == CARRIAGE_RETURN || (c == LINE_FEED && not after_return) then 1 else 0)
    + ends_begun (c == CARRIAGE_RETURN) units

-- how the units end: in a CR, or as before if there are none
unfoldable pub ends_in_return : Bool → List ℕ → Bool
ends_in_return after_return [] = after_return
ends_in_return after_return (c ∷ units) = ends_in_return (c == CARRIAGE_RETURN) units

-- the token of a piece on a line, if it is one
abbrev pub tokens_at : Option TokenKind → ℕ → List Token
tokens_at None line = []
tokens_at (Some kind) line = record { kind = kind; line = line } ∷ []
