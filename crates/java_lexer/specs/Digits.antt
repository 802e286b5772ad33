-- What private functions do that read a number. Only their contracts cite it.
use Rattle.std.specs.Prelude.{ℕ, ◌+◌, ◌*◌, Option, Some, None}
use Rattle.java_text.specs.Source.{hex_digit_value}

-- the number with one more digit, if there is one
abbrev pub lengthened : ℕ → ℕ → Option ℕ → ℕ
lengthened base n None = n
lengthened base n (Some digit) = n * base + digit

-- the number with the digit that a unit is, if it is one
abbrev pub with_unit : ℕ → ℕ → ℕ → ℕ
with_unit base n c = lengthened base n (hex_digit_value c)
