-- One step of reading a number.
use Rattle.std.proofs.Common.{◌≡◌, ℕ, ◌+◌, ◌*◌, ◌^◌, ◌<◌, ◌≤◌, Bool, true, false, cond, List, []}
use Rattle.std.proofs.Common.{◌∷◌, Option, Some, None, length, drop, get_or, refl, sym, ap, arith}
use Rattle.std.proofs.Common.{if◌then◌else◌}
use Rattle.std.proofs.Math.Nat.{mul-le-mul_left}
use Rattle.std.proofs.lemmas.Bool.{le-ltb, lt-ltb}
use Rattle.std.proofs.lemmas.List.{drop_all, drop_more}
use Rattle.std.specs.Char.{is_digit, digit_value}
use Rattle.std.specs.Str.Parse.{digits_value_after}
use Rattle.java_text.specs.Source.{hex_digit_value}
use Rattle.java_lexer.specs.Numbers.{digits_among, small, number_of}
use Rattle.java_lexer.specs.Digits.{lengthened, with_unit}

-- the number that these units write behind a number
abbrev pub number_behind : ℕ → ℕ → List ℕ → ℕ
number_behind base n [] = n
number_behind base n (c ∷ units) = number_behind base (with_unit base n c) units

-- that is the number that the digits among them write
behind_is : (base n : ℕ) (units : List ℕ)
    → number_behind base n units ≡ digits_value_after base n (digits_among units)
behind_is base n [] = refl
behind_is base n (c ∷ units) = by (is_digit c 16) (behind_is base n units)
    (behind_is base (n * base + digit_value c) units) where
      by : (b : Bool) → number_behind base n units ≡ digits_value_after base n (digits_among units)
          → number_behind base (n * base + digit_value c) units
          ≡ digits_value_after base (n * base + digit_value c) (digits_among units)
          → number_behind base (lengthened base n (if b then Some (digit_value c) else None)) units
          ≡ digits_value_after base n (cond b (c ∷ digits_among units) (digits_among units))
      by true same more = more
      by false same more = same

pub number_is : (base : ℕ) (units : List ℕ)
    → small (number_behind base 0 units) ≡ number_of base units
unfolding number_of
number_is base units = ap small (behind_is base 0 units)

-- one more unit
pub unit_read : (base n i : ℕ) (units : List ℕ) → i < length units
    → number_behind base (with_unit base n (get_or units i 0)) (drop (i + 1) units)
    ≡ number_behind base n (drop i units)
unit_read base n i units h = rw (drop_more units i 0 h) refl

-- the end
pub all_read : (base n i : ℕ) (units : List ℕ) → length units ≤ i
    → n ≡ number_behind base n (drop i units)
all_read base n i units h = rw (drop_all i units h) refl

grows : (base n h : ℕ) → 0 < base → n ≤ n * base + h
grows base n h b = let one_at_least : 1 ≤ base = omega arith in
    omega (arith, mul-le-mul_left n one_at_least)

grows_with : (base n : ℕ) (digit : Option ℕ) → 0 < base → n ≤ lengthened base n digit
grows_with base n None b = omega arith
grows_with base n (Some digit) b = grows base n digit b

-- digits make a number no smaller
no_smaller : (base n : ℕ) (units : List ℕ) → 0 < base → n ≤ number_behind base n units
no_smaller base n [] b = omega arith
no_smaller base n (c ∷ units) b =
    let more = grows_with base n (hex_digit_value c) b in
    let rest = no_smaller base (with_unit base n c) units b in
    omega (arith, more, rest)

-- more than 64 bits
pub too_large : (base n i : ℕ) (units : List ℕ) → 0 < base → i < length units
    → (with_unit base n (get_or units i 0) < 2 ^ 64 → ⊥)
    → None ≡ small (number_behind base n (drop i units))
too_large base n i units b h large =
    let longer = unit_read base n i units h in
    let least = no_smaller base (with_unit base n (get_or units i 0)) (drop (i + 1) units) b in
    let bound : 2 ^ 64 ≤ number_behind base n (drop i units) =
    rw (← longer) (omega (arith, least, large)) in
    sym (ap (λ t. if t then Some (number_behind base n (drop i units)) else None)
    (le-ltb _ _ bound))

-- no more than 64 bits
pub small_is : (n t : ℕ) → n < 2 ^ 64 → n ≡ t → Some n ≡ small t
small_is n t h e = rw (← e) (sym (ap (λ b. if b then Some n else None) (lt-ltb n (2 ^ 64) h)))
