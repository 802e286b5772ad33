-- Modified UTF-8 (JVMS 4.4.7): the units of UTF-16, each by itself in one
-- to three bytes, in the shortest form but for U+0000, which has two.
-- So no byte is 0 or above ef, and a surrogate has three bytes, paired or not.
use Rattle.std.specs.Prelude.{◌≡◌, ℕ, ◌+◌, ◌/◌, ◌%◌, ◌<◌, ◌^◌, ◌&&◌, nat_lt, List, [], ◌∷◌}
use Rattle.std.specs.Prelude.{if◌then◌else◌}
use Rattle.std.specs.List.{flat_map, AllByRecursion}

-- the bytes of a unit
abbrev pub unit_bytes : ℕ → List ℕ
unit_bytes unit = if nat_lt 0 unit && nat_lt unit 0x80 then unit ∷ []
    else (if nat_lt unit 0x800 then (0xC0 + unit / 64) ∷ (0x80 + unit % 64) ∷ []
    else (0xE0 + unit / 4096) ∷ (0x80 + unit / 64 % 64) ∷ (0x80 + unit % 64) ∷ [])

-- the bytes of some units
abbrev pub modified_utf8 : List ℕ → List ℕ
modified_utf8 units = flat_map unit_bytes units

-- the bytes are those of some units
pub record IsModifiedUtf8 (bytes : List ℕ) : Type 0 where
  pub units : List ℕ
  pub fit : AllByRecursion (λ unit. unit < 2 ^ 16) units
  pub whole : bytes ≡ modified_utf8 units
