-- What the characters of a literal stand for (JLS 3.10.7), in UTF-16 units.
use Rattle.std.specs.Prelude.{ℕ, zero, suc, ◌+◌, ◌-◌, ◌*◌, Bool, ◌&&◌, ◌==◌, List, [], ◌∷◌}
use Rattle.std.specs.Prelude.{slice_index, length, take, drop, if◌then◌else◌}
use Rattle.std.specs.List.{concat}
use Rattle.std.specs.Char.{is_digit, digit_value}
use Rattle.java_text.specs.declared.character.TheConstants.{BACKSLASH, LINE_FEED}
use Rattle.java_lexer.specs.declared.escape.TheConstants.{SIMPLE_ESCAPES}

-- ---- the units behind the backslash of an escape

abbrev pub is_octal_digit : ℕ → Bool
is_octal_digit c = is_digit c 8

-- zero, one, two or three
abbrev pub is_zero_to_three : ℕ → Bool
is_zero_to_three c = is_digit c 4

-- what the octal digit at a place stands for
abbrev pub octal_digit_value : List ℕ → ℕ → ℕ
octal_digit_value units place = digit_value (slice_index units place)

-- how many octal digits an octal escape has: as many as stand there, up to two, or three of which
-- the first is at most three
abbrev pub octal_length : List ℕ → ℕ
octal_length units = if is_octal_digit (slice_index units 1)
    then (if is_zero_to_three (slice_index units 0) && is_octal_digit (slice_index units 2) then 3
    else 2)
    else 1

-- the number of these digits
abbrev pub octal_value : List ℕ → ℕ
octal_value units = if octal_length units == 3
    then (octal_digit_value units 0 * 8 + octal_digit_value units 1) * 8 + octal_digit_value units
    2
    else (if octal_length units == 2 then octal_digit_value units 0 * 8 + octal_digit_value units 1
    else octal_digit_value units 0)

-- what the table has for a unit: without an entry it stands for itself
abbrev pub look_up : List (ℕ × ℕ) → ℕ → ℕ
look_up [] c = c
look_up (entry ∷ entries) c = if c == entry.0 then entry.1 else look_up entries c

-- how many units behind its backslash an escape takes
abbrev pub escape_length : List ℕ → ℕ
escape_length units = if is_octal_digit (slice_index units 0) then octal_length units else 1

-- the unit that an escape stands for
abbrev pub escape_value : List ℕ → ℕ
escape_value units = if is_octal_digit (slice_index units 0) then octal_value units
    else look_up SIMPLE_ESCAPES (slice_index units 0)

-- what an escape stands for: nothing, where a line feed is escaped, in a text block
abbrev pub escape_units : List ℕ → List ℕ
escape_units units = if slice_index units 0 == LINE_FEED then [] else escape_value units ∷ []

-- ---- the items of a text, each an escape or a unit that stands for itself

-- what the item at the front stands for, and the units that follow it
abbrev pub first_item : ℕ → List ℕ → List ℕ × List ℕ
first_item c units = if c == BACKSLASH then (escape_units units, drop (escape_length units) units)
    else (c ∷ [], units)

-- what each of the first n items stands for
unfoldable pub items_up_to : ℕ → List ℕ → List (List ℕ)
items_up_to zero units = []
items_up_to (suc n) [] = []
items_up_to (suc n) (c ∷ units) = let first = first_item c units in first.0 ∷ items_up_to n first.1

-- what each item stands for: each takes a unit or more
abbrev pub items_of : List ℕ → List (List ℕ)
items_of units = items_up_to (length units) units

-- the units with each escape replaced by what it stands for
abbrev pub unescaped : List ℕ → List ℕ
unescaped units = concat (items_of units)

-- the units between the quotation marks of a string
abbrev pub between_quotes : List ℕ → List ℕ
between_quotes units = take (length units - 2) (drop 1 units)

-- what a string literal stands for (JLS 3.10.5)
abbrev pub string_units : List ℕ → List ℕ
string_units units = unescaped (between_quotes units)

-- the unit that a character literal stands for (JLS 3.10.4)
abbrev pub character_unit : List ℕ → ℕ
character_unit units = if slice_index units 1 == BACKSLASH then escape_value (drop 2 units)
    else slice_index units 1
