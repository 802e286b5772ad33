-- What numbers stand for (JLS 3.10.1, 3.10.2).
use Rattle.std.specs.Prelude.{ℕ, ◌-◌, ◌^◌, Bool, false, ◌||◌, not, ◌==◌, nat_lt, List}
use Rattle.std.specs.Prelude.{[], ◌∷◌, codes, slice_index, length, drop, filter, Option, Some}
use Rattle.std.specs.Prelude.{None, if◌then◌else◌}
use Rattle.std.specs.Char.{is_digit}
use Rattle.std.specs.Str.Parse.{digits_value}
use Rattle.java_token.specs.declared.token.LexLit.{LexLit}
use Rattle.java_token.specs.declared.token.LexLit.TheVariants.{Int, Real}

abbrev pub last : List ℕ → ℕ
last units = slice_index units (length units - 1)

abbrev pub is_among : List ℕ → ℕ → Bool
is_among [] c = false
is_among (unit ∷ units) c = c == unit || is_among units c

-- 16 behind 0x, 2 behind 0b, 8 where more digits or underscores follow a 0, and else 10
abbrev pub radix : List ℕ → ℕ
radix units = let second = slice_index units 1 in
    if is_among (codes "0") (slice_index units 0)
    then (if is_among (codes "xX") second then 16
    else (if is_among (codes "bB") second then 2
    else (if is_digit second 10 || is_among (codes "_") second then 8 else 10)))
    else 10

-- the digits and what stands among or behind them, without 0x or 0b
abbrev pub digit_part : List ℕ → List ℕ
digit_part units = if radix units == 16 || radix units == 2 then drop 2 units else units

-- the digits among these units: an underscore and a suffix are none
abbrev pub digits_among : List ℕ → List ℕ
digits_among units = filter (λ c. is_digit c 16) units

-- the number, if 64 bits hold it
abbrev pub small : ℕ → Option ℕ
small n = if nat_lt n (2 ^ 64) then Some n else None

-- the number that the digits among these units write in this radix, if 64 bits hold it
unfoldable pub number_of : ℕ → List ℕ → Option ℕ
number_of base units = small (digits_value base (digits_among units))

-- a suffix L or l makes it long
abbrev pub is_long : List ℕ → Bool
is_long units = is_among (codes "lL") (last units)

abbrev pub integer_of : List ℕ → LexLit
integer_of units =
    Int (number_of (radix units) (digit_part units)) (radix units == 10) (is_long units)

-- a suffix F or f makes it float, and without it it is double
abbrev pub real_of : List ℕ → LexLit
real_of units = Real (not (is_among (codes "fF") (last units)))
