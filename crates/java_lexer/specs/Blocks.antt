-- What a text block stands for (JLS 3.10.6), in UTF-16 units.
use Rattle.std.specs.Prelude.{ℕ, ◌-◌, Bool, not, List, length, take, drop, map, filter, min}
use Rattle.std.specs.Prelude.{take_while}
use Rattle.std.specs.List.{list_all, fold, suffix_len, after_first, after_last, slice_split}
use Rattle.std.specs.List.{join_with_byte}
use Rattle.java_text.specs.declared.character.TheConstants.{LINE_FEED}
use Rattle.java_text.specs.Letters.{is_white}
use Rattle.java_lexer.specs.LineTerminators.{is_line_feed, normalized}
use Rattle.java_lexer.specs.Escapes.{unescaped}

-- what stands between the line terminator of the opening delimiter and the closing delimiter,
-- which is three quotation marks; each line terminator in it is a line feed
abbrev pub content : List ℕ → List ℕ
content units = let inner = after_first is_line_feed (normalized units) in
    take (length inner - 3) inner

-- the lines, which line feeds part
abbrev pub lines : List ℕ → List (List ℕ)
lines units = slice_split is_line_feed units

abbrev pub last_line : List ℕ → List ℕ
last_line units = after_last is_line_feed units

abbrev pub is_blank : List ℕ → Bool
is_blank line = list_all is_white line

-- how much white space a line begins with
abbrev pub indentation : List ℕ → ℕ
indentation line = length (take_while is_white line)

abbrev pub lines_not_blank : List ℕ → List (List ℕ)
lines_not_blank units = filter (λ line. not (is_blank line)) (lines units)

-- the least indentation of the lines that are not blank and of the last line, which counts even
-- where it is blank
unfoldable pub margin : List ℕ → ℕ
margin units =
    fold min (indentation (last_line units)) (map indentation (lines_not_blank units))

-- the line without the white space at its end
abbrev pub trimmed : List ℕ → List ℕ
trimmed line = take (length line - suffix_len is_white line) line

-- the line without this much of its front and without the white space at its end
abbrev pub kept : ℕ → List ℕ → List ℕ
kept width line = trimmed (drop width line)

-- what is kept of each line, with line feeds between
unfoldable pub stripped : ℕ → List ℕ → List ℕ
stripped width units = join_with_byte LINE_FEED (map (kept width) (lines units))

-- incidental white space is removed before escapes are read
abbrev pub block_units : List ℕ → List ℕ
block_units units = unescaped (stripped (margin (content units)) (content units))
