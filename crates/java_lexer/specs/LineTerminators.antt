-- Line terminators (JLS 3.4): a CR with an LF right behind it, each other CR, and each other LF.
use Rattle.std.specs.Prelude.{ℕ, Bool, false, ◌&&◌, ◌==◌, List, [], ◌∷◌, map, length, filter}
use Rattle.std.specs.Prelude.{if◌then◌else◌}
use Rattle.java_text.specs.declared.character.TheConstants.{CARRIAGE_RETURN, LINE_FEED}

abbrev pub is_line_feed : ℕ → Bool
is_line_feed c = c == LINE_FEED

-- CR LF stands at the front
abbrev pub begins_with_pair : List ℕ → Bool
begins_with_pair (c ∷ d ∷ units) = c == CARRIAGE_RETURN && d == LINE_FEED
begins_with_pair _ = false

-- each CR LF translated to LF
unfoldable pub without_paired_returns : List ℕ → List ℕ
without_paired_returns [] = []
without_paired_returns (c ∷ units) =
    if begins_with_pair (c ∷ units) then without_paired_returns units
    else c ∷ without_paired_returns units

-- a CR translated to LF
abbrev pub without_return : ℕ → ℕ
without_return c = if c == CARRIAGE_RETURN then LINE_FEED else c

-- Each line terminator normalized to LF (JLS 3.10.6): CR LF is translated to LF, and then CR.
unfoldable pub normalized : List ℕ → List ℕ
normalized units = map without_return (without_paired_returns units)

-- how many line terminators there are: CR LF is one, not two
abbrev pub line_ends : List ℕ → ℕ
line_ends units = length (filter is_line_feed (normalized units))
