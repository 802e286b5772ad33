-- Identifiers and keywords (JLS 3.8, 3.9), as UTF-16 units.
use Rattle.std.specs.Prelude.{ℕ, Bool, true, false, ◌&&◌, List, [], ◌∷◌, Option, Some, None}
use Rattle.std.specs.Prelude.{if◌then◌else◌}
use Rattle.std.specs.Char.Utf16.{is_high_surrogate, is_low_surrogate, surrogate_pair_char}
use Rattle.java_text.specs.Letters.{is_start, is_part}

-- Each character of the units goes on an identifier. Two surrogates that pair are one character,
-- whose first unit may stand before these; a surrogate without a partner is no character.
abbrev pub are_parts : Option ℕ → List ℕ → Bool
are_parts None [] = true
are_parts (Some high) [] = false
are_parts None (c ∷ w) =
    if is_high_surrogate c then are_parts (Some c) w else (is_part c && are_parts None w)
are_parts (Some high) (c ∷ w) =
    is_low_surrogate c && (is_part (surrogate_pair_char high c) && are_parts None w)

-- behind the first unit of a pair: the second, of a character that begins an identifier, and
-- others
abbrev pub is_word_behind : ℕ → List ℕ → Bool
is_word_behind high [] = false
is_word_behind high (c ∷ w) =
    is_low_surrogate c && (is_start (surrogate_pair_char high c) && are_parts None w)

-- the first character begins an identifier, and each other goes on one
abbrev pub is_word : List ℕ → Bool
is_word [] = false
is_word (c ∷ w) =
    if is_high_surrogate c then is_word_behind c w else (is_start c && are_parts None w)
