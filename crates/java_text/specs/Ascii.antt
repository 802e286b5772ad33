-- The same for ASCII, by short tests. Only contracts of private functions cite it.
use Rattle.std.specs.Prelude.{ℕ, Bool, ◌&&◌, ◌||◌, ◌==◌, nat_le}
use Rattle.java_text.specs.Letters.{is_control_white}

-- the ASCII letters, the dollar sign and the low line
abbrev pub is_ascii_start : ℕ → Bool
is_ascii_start c =
    (nat_le 0x41 c && nat_le c 0x5A)
    || ((nat_le 0x61 c && nat_le c 0x7A) || (c == 0x24 || c == 0x5F))

-- these, the ASCII digits and the ASCII control characters that an identifier may hold
abbrev pub is_ascii_part : ℕ → Bool
is_ascii_part c =
    is_ascii_start c
    || ((nat_le 0x30 c && nat_le c 0x39)
    || (nat_le c 0x08 || ((nat_le 0x0E c && nat_le c 0x1B) || c == 0x7F)))

-- a blank or a control character that is white space
abbrev pub is_ascii_white : ℕ → Bool
is_ascii_white c = c == 0x20 || is_control_white c
