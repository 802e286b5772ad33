-- The brackets of a list of tokens (JLS 3.11), and which of them don't pair.
use Rattle.std.specs.Prelude.{◌≡◌, ℕ, zero, suc, ◌+◌, Bool, true, false, not, ◌&&◌, ◌||◌, ◌==◌}
use Rattle.std.specs.Prelude.{if◌then◌else◌, List, [], ◌∷◌, ◌++◌, length, Option, Some, None}
use Rattle.java_token.specs.declared.token.Token.{Token}
use Rattle.java_token.specs.declared.token.TokenKind.{TokenKind}
use Rattle.java_token.specs.declared.token.TokenKind.TheVariants as kind
use Rattle.java_token.specs.declared.operator.OpTok.{OpTok}
use Rattle.java_token.specs.declared.operator.OpTok.TheVariants.{LeftParenthesis}
use Rattle.java_token.specs.declared.operator.OpTok.TheVariants.{RightParenthesis, LeftBracket}
use Rattle.java_token.specs.declared.operator.OpTok.TheVariants.{RightBracket, LeftBrace}
use Rattle.java_token.specs.declared.operator.OpTok.TheVariants.{RightBrace}
use Rattle.segments.specs.declared.bracket.Pair.{Pair}
use Rattle.segments.specs.declared.bracket.Pair.TheVariants.{Parentheses, Brackets, Braces}
use Rattle.segments.specs.declared.bracket.Mark.{Mark}
use Rattle.segments.specs.declared.bracket.Mark.TheVariants.{Opening, Closing, Plain}

-- what an operator or a separator is among brackets
abbrev pub mark_of_operator : OpTok → Mark
mark_of_operator LeftParenthesis = Opening Parentheses
mark_of_operator RightParenthesis = Closing Parentheses
mark_of_operator LeftBracket = Opening Brackets
mark_of_operator RightBracket = Closing Brackets
mark_of_operator LeftBrace = Opening Braces
mark_of_operator RightBrace = Closing Braces
mark_of_operator _ = Plain

abbrev pub mark_of_kind : TokenKind → Mark
mark_of_kind (kind.Op operator) = mark_of_operator operator
mark_of_kind _ = Plain

unfoldable pub mark_of : Token → Mark
mark_of token = mark_of_kind token.kind

abbrev pub same_pair : Pair → Pair → Bool
same_pair Parentheses Parentheses = true
same_pair Brackets Brackets = true
same_pair Braces Braces = true
same_pair _ _ = false

-- the brackets of a list pair: it is empty, or begins with a token that is no bracket, or with a
-- group
pub data IsBalanced : List Token → Type 0 where
  no_token : IsBalanced []
  single : (t : Token) (behind : List Token) → mark_of t ≡ Plain → IsBalanced behind
      → IsBalanced (t ∷ behind)
  in_group : (pair : Pair) (opening : Token) (inside : List Token) (closing : Token)
      (behind : List Token)
      → mark_of opening ≡ Opening pair → IsBalanced inside → mark_of closing ≡ Closing pair
      → IsBalanced behind
      → IsBalanced (opening ∷ (inside ++ closing ∷ behind))

-- ---- what stands outside all brackets

abbrev pub is_opening : Mark → Bool
is_opening (Opening pair) = true
is_opening _ = false

abbrev pub is_closing : Mark → Bool
is_closing (Closing pair) = true
is_closing _ = false

-- how many of these tokens are so
abbrev pub count : (Token → Bool) → List Token → ℕ
count is [] = 0
count is (t ∷ ts) = if is t then 1 + count is ts else count is ts

abbrev pub opens : List Token → ℕ
opens tokens = count (λ t. is_opening (mark_of t)) tokens

abbrev pub closes : List Token → ℕ
closes tokens = count (λ t. is_closing (mark_of t)) tokens

-- whether the place behind these tokens, of a list whose brackets pair, is outside all brackets
unfoldable pub is_outside : List Token → Bool
is_outside before = opens before == closes before

-- ---- what doesn't pair

-- some token of the list is so, with what stands before it and behind it
abbrev pub some_token : (List Token → Token → List Token → Bool) → List Token → Bool
some_token is [] = false
some_token is (t ∷ ts) = is [] t ts || some_token (λ before. is (t ∷ before)) ts

abbrev pub marks_pair : Mark → Mark → Bool
marks_pair (Opening pair) (Closing other) = same_pair pair other
marks_pair _ _ = false

-- an opening bracket, and a closing one of its kind
abbrev pub are_pair : Token → Token → Bool
are_pair opening closing = marks_pair (mark_of opening) (mark_of closing)

abbrev pub is_plain : Mark → Bool
is_plain Plain = true
is_plain _ = false

-- whether the brackets of a list of at most n tokens pair: it is empty, or begins with a token
-- that is no bracket, or with a group
unfoldable pub is_balanced_within : ℕ → List Token → Bool
is_balanced_within n [] = true
is_balanced_within zero (t ∷ ts) = false
is_balanced_within (suc n) (t ∷ ts) = (is_plain (mark_of t) && is_balanced_within n ts)
    || some_token (λ inside closing behind.
    are_pair t closing && (is_balanced_within n inside && is_balanced_within n behind)) ts

abbrev pub is_balanced : List Token → Bool
is_balanced tokens = is_balanced_within (length tokens) tokens

-- a closing bracket pairs where an opening one of its kind stands before it, and between them
-- tokens whose brackets pair
abbrev pub pairs_back : List Token → Token → Bool
pairs_back before closing =
    some_token (λ front opening inside. are_pair opening closing && is_balanced inside) before

-- an opening one, where a closing one of its kind stands so behind it
abbrev pub pairs_ahead : Token → List Token → Bool
pairs_ahead opening behind =
    some_token (λ inside closing rest. are_pair opening closing && is_balanced inside) behind

-- the line of the first token that is so
abbrev pub line_of_first : (List Token → Token → List Token → Bool) → List Token → Option ℕ
line_of_first is [] = None
line_of_first is (t ∷ ts) = if is [] t ts then Some t.line
    else line_of_first (λ before. is (t ∷ before)) ts

abbrev pub is_wrong_closing : List Token → Token → List Token → Bool
is_wrong_closing before t behind = is_closing (mark_of t) && not (pairs_back before t)

abbrev pub is_left_open : List Token → Token → List Token → Bool
is_left_open before t behind = is_opening (mark_of t) && not (pairs_ahead t behind)

abbrev pub or_else : Option ℕ → Option ℕ → Option ℕ
or_else (Some line) other = Some line
or_else None other = other

-- where the brackets don't pair: the line of the first closing bracket that doesn't pair,
-- and if there is none, of the first opening bracket that stays open
unfoldable pub wrong_line : List Token → Option ℕ
wrong_line tokens =
    or_else (line_of_first is_wrong_closing tokens) (line_of_first is_left_open tokens)
