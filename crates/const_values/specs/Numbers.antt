-- Whole numbers in Java's types (JLS 4.2.1). Widths are in bits, and one bit is the sign's.
use Rattle.std.specs.Prelude.{ℕ, ◌^◌, ℤ, pos, Bool, ◌&&◌, unsigned_abs, int_le, int_lt, int_div}
use Rattle.std.specs.Int.{Width, int_wrap, int_rem_euclid, int_div_euclid}
use Rattle.std.specs.Ordering.{int_eq}

-- what is left of z modulo n, from 0 up
abbrev pub residue : ℤ → ℕ → ℕ
residue z n = unsigned_abs (int_rem_euclid z (pos n))

-- the number of the width that is congruent to z modulo 2 to the power of the width
abbrev pub wrapped : Width → ℤ → ℤ
wrapped w z = int_wrap w z

-- the quotient rounded down
abbrev pub floor_quotient : ℤ → ℕ → ℤ
floor_quotient z n = int_div_euclid z (pos n)

-- the quotient rounded toward zero (JLS 15.17.2)
abbrev pub quotient : ℤ → ℤ → ℤ
quotient a b = int_div a b

abbrev pub is_zero : ℤ → Bool
is_zero z = int_eq z (pos 0)

-- z lies from the first number up to below the second
abbrev pub is_within : ℤ → ℤ → ℤ → Bool
is_within low high z = int_le low z && int_lt z high
