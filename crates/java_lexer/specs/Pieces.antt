-- Which pieces a text has, by longest match (JLS 3.2).
use Rattle.std.specs.Prelude.{ℕ, zero, suc, Bool, List, length, take, Option, Some, None}
use Rattle.std.specs.Prelude.{slice_index, ◌&&◌, ◌==◌, if◌then◌else◌}
use Rattle.java_text.specs.declared.character.TheConstants.{ASTERISK, SLASH}
use Rattle.java_lexer.specs.declared.kind.Kind.{Kind}
use Rattle.java_lexer.specs.declared.kind.Kind.TheVariants as kind
use Rattle.java_lexer.specs.Grammar.{kind_by, grammar, comment}
use Rattle.java_lexer.specs.Words.{is_word}

-- what kind of piece these units are, if they are one
unfoldable pub kind_of : List ℕ → Option Kind
kind_of w = if is_word w then Some kind.Word else kind_by grammar w

-- with its length, which is at most n
abbrev pub or_shorter : ℕ → Option Kind → Option (ℕ × Kind) → Option (ℕ × Kind)
or_shorter n (Some k) shorter = Some (n, k)
or_shorter n None shorter = shorter

-- of the fronts of at most n units, the longest that has a kind, with its length and its kind
unfoldable pub longest_up_to : (List ℕ → Option Kind) → ℕ → List ℕ → Option (ℕ × Kind)
longest_up_to kind zero units = None
longest_up_to kind (suc n) units =
    or_shorter (suc n) (kind (take (suc n) units)) (longest_up_to kind n units)

-- of all fronts, the longest that has a kind
abbrev pub longest : (List ℕ → Option Kind) → List ℕ → Option (ℕ × Kind)
longest kind units = longest_up_to kind (length units) units

-- `/*` stands at the front
abbrev pub opens_comment : List ℕ → Bool
opens_comment units = slice_index units 0 == SLASH && slice_index units 1 == ASTERISK

-- The piece at the front: the longest front that is one. At `/*` only a comment is a piece.
unfoldable pub piece_at : List ℕ → Option (ℕ × Kind)
piece_at units =
    if opens_comment units then longest (kind_by comment) units else longest kind_of units
