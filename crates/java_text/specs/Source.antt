-- The text of a source: from bytes to UTF-16 units (JLS 3.1, 3.2, 3.3, 3.5).
use Rattle.std.specs.Prelude.{ℕ, zero, suc, ◌+◌, ◌*◌, ◌-◌, Bool, true, false, ◌&&◌, ◌||◌, not}
use Rattle.std.specs.Prelude.{◌==◌, nat_lt, List, [], ◌∷◌, length, map, take, drop, take_while}
use Rattle.std.specs.Prelude.{slice_index, Option, Some, None, if◌then◌else◌}
use Rattle.std.specs.List.{flat_map}
use Rattle.std.specs.Char.{is_digit, digit_value}
use Rattle.std.specs.Str.{chars}
use Rattle.std.specs.Str.Lossy.{utf8_valid_len}
use Rattle.std.specs.Char.Escape.{encode_utf16}
use Rattle.java_text.specs.declared.character.TheConstants.{BACKSLASH, LETTER_U, SUBSTITUTE}
use Rattle.java_text.specs.declared.escape.Input.{Input}

-- the UTF-16 units (JLS 3.1) of the longest front of the bytes that is UTF-8
abbrev pub raw_units : List ℕ → List ℕ
raw_units bytes = flat_map encode_utf16 (chars (take (utf8_valid_len bytes) bytes))

-- all the bytes are UTF-8
abbrev pub is_all_utf8 : List ℕ → Bool
is_all_utf8 bytes = utf8_valid_len bytes == length bytes

-- ---- Unicode escapes (JLS 3.3)

-- how long the Unicode marker at the front is, which is letters `u`: none is no marker
abbrev pub marker_length : List ℕ → ℕ
marker_length units = length (take_while (λ c. c == LETTER_U) units)

-- what a hexadecimal digit stands for
abbrev pub hex_digit_value : ℕ → Option ℕ
hex_digit_value c = if is_digit c 16 then Some (digit_value c) else None

-- the number with one more digit, if both are there
abbrev pub with_digit : Option ℕ → Option ℕ → Option ℕ
with_digit (Some number) (Some digit) = Some (number * 16 + digit)
with_digit _ _ = None

-- what the four hexadecimal digits at the front indicate
abbrev pub four_digits : List ℕ → Option ℕ
four_digits (a ∷ b ∷ c ∷ d ∷ units) =
    with_digit (with_digit (with_digit (hex_digit_value a) (hex_digit_value b))
    (hex_digit_value c))
    (hex_digit_value d)
four_digits units = None

-- what a backslash with these units behind it indicates, if it begins an escape: a marker and four
-- digits
unfoldable pub unicode_escape_value : List ℕ → Option ℕ
unicode_escape_value units =
    if marker_length units == 0 then None else four_digits (drop (marker_length units) units)

-- how many units behind its backslash an escape takes
abbrev pub unicode_escape_length : List ℕ → ℕ
unicode_escape_length units = marker_length units + 4

-- a unit that stands for itself, and one that an escape was translated to
abbrev pub itself : ℕ → Input
itself unit = record { unit = unit; is_escaped = false }

abbrev pub indicated : ℕ → Input
indicated unit = record { unit = unit; is_escaped = true }

abbrev pub is_backslash : Input → Bool
is_backslash input = input.unit == BACKSLASH

abbrev pub is_first_escaped : List Input → Bool
is_first_escaped [] = false
is_first_escaped (input ∷ inputs) = input.is_escaped

abbrev pub is_even : ℕ → Bool
is_even zero = true
is_even (suc n) = not (is_even n)

-- A backslash is eligible to begin an escape behind what has resulted so far, the most recent
-- first: where the most recent unit was itself translated from an escape, or else where the
-- backslashes right before it are even in number, whether they come from escapes or not.
abbrev pub is_eligible : List Input → Bool
is_eligible recent = is_first_escaped recent || is_even (length (take_while is_backslash recent))

-- what an eligible backslash gives, and the units that follow: an escape, or itself
abbrev pub eligible_input : Option ℕ → List ℕ → Input × List ℕ
eligible_input None units = (itself BACKSLASH, units)
eligible_input (Some value) units = (indicated value, drop (unicode_escape_length units) units)

-- what the unit gives with which the rest of the text begins, and what follows then
abbrev pub first_input : List Input → ℕ → List ℕ → Input × List ℕ
first_input recent c units =
    if c == BACKSLASH && is_eligible recent then eligible_input (unicode_escape_value units) units
    else (itself c, units)

-- what the units behind those that gave `recent` give, in at most n steps
unfoldable pub inputs_up_to : ℕ → List Input → List ℕ → List Input
inputs_up_to zero recent units = []
inputs_up_to (suc n) recent [] = []
inputs_up_to (suc n) recent (c ∷ units) = let first = first_input recent c units in
    first.0 ∷ inputs_up_to n (first.0 ∷ recent) first.1

-- each step takes a unit or more
abbrev pub inputs_behind : List Input → List ℕ → List Input
inputs_behind recent units = inputs_up_to (length units) recent units

-- the units with each Unicode escape replaced by what it indicates
abbrev pub translated : List ℕ → List ℕ
translated units = map (λ (input : Input). input.unit) (inputs_behind [] units)

-- a last U+001A is dropped (JLS 3.5)
abbrev pub without_last_substitute : List ℕ → List ℕ
without_last_substitute units =
    if nat_lt 0 (length units) && slice_index units (length units - 1) == SUBSTITUTE
    then take (length units - 1) units else units

-- the text of the bytes, as UTF-16 units
unfoldable pub text_of : List ℕ → List ℕ
text_of bytes = without_last_substitute (translated (raw_units bytes))
