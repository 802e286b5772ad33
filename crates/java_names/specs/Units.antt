-- The units of modified UTF-8, from their bytes (JVMS 4.4.7).
use Rattle.std.specs.Prelude.{◌≡◌, ◌+◌, ◌-◌, ◌*◌, ◌&&◌, ◌||◌, ◌==◌, nat_le, ℕ, ◌<◌, ◌^◌, Bool}
use Rattle.std.specs.Prelude.{List, [], ◌∷◌, ◌++◌, Option, Some, None, option_map, is_some}
use Rattle.std.specs.Prelude.{if◌then◌else◌}
use Rattle.java_names.specs.ModifiedUtf8.{unit_bytes}

-- a byte behind the first of a unit
abbrev pub is_next_byte : ℕ → Bool
is_next_byte b = nat_le 0x80 b && nat_le b 0xBF

abbrev pub is_single_byte : ℕ → Bool
is_single_byte a = nat_le 1 a && nat_le a 0x7F

-- U+0000, or the bytes of no shorter unit
abbrev pub is_byte_pair : ℕ → ℕ → Bool
is_byte_pair a b =
    ((a == 0xC0) && (b == 0x80)) || ((nat_le 0xC2 a && nat_le a 0xDF) && is_next_byte b)

-- the bytes of no shorter unit
abbrev pub is_byte_triple : ℕ → ℕ → ℕ → Bool
is_byte_triple a b c =
    ((((a == 0xE0) && nat_le 0xA0 b) || (nat_le 0xE1 a && nat_le a 0xEF)) && is_next_byte b)
    && is_next_byte c

-- the unit of two bytes
abbrev pub pair_unit : ℕ → ℕ → ℕ
pair_unit a b = 64 * a + b - (64 * 0xC0 + 0x80)

-- the unit of three bytes
abbrev pub triple_unit : ℕ → ℕ → ℕ → ℕ
triple_unit a b c = 4096 * a + 64 * b + c - (4096 * 0xE0 + 64 * 0x80 + 0x80)

-- the bytes begin with those of the unit, and this stands behind them
pub record IsFirstUnit (bytes : List ℕ) (unit : ℕ) (behind : List ℕ) : Type 0 where
  pub fits : unit < 2 ^ 16
  pub whole : bytes ≡ unit_bytes unit ++ behind

abbrev pub HasNoUnit : List ℕ → Type 0
HasNoUnit bytes = (unit : ℕ) (behind : List ℕ) → IsFirstUnit bytes unit behind → ⊥

-- one more unit in front of those behind it, where there are these
abbrev pub with_unit : ℕ → Option (List ℕ) → Option (List ℕ)
with_unit unit more = option_map (λ units. unit ∷ units) more

-- the units of a text in modified UTF-8, and none of any other bytes
unfoldable pub units_of : List ℕ → Option (List ℕ)
units_of [] = Some []
units_of (a ∷ []) = if is_single_byte a then Some (a ∷ []) else None
units_of (a ∷ b ∷ []) = if is_single_byte a then with_unit a (units_of (b ∷ []))
    else (if is_byte_pair a b then Some (pair_unit a b ∷ []) else None)
units_of (a ∷ b ∷ c ∷ bytes) = if is_single_byte a then with_unit a (units_of (b ∷ c ∷ bytes))
    else (if is_byte_pair a b then with_unit (pair_unit a b) (units_of (c ∷ bytes))
    else (if is_byte_triple a b c then with_unit (triple_unit a b c) (units_of bytes) else None))

-- whether the bytes are modified UTF-8, as a function of them
abbrev pub is_modified_utf8 : List ℕ → Bool
is_modified_utf8 bytes = is_some (units_of bytes)
