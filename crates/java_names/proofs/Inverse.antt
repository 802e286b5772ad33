-- The path of the name that a path spells is that path.
use Rattle.std.proofs.Common.{◌≡◌, refl, ap, ◌∙◌, ℕ, ◌+◌, ◌-◌, ◌/◌, ◌%◌, ◌<◌, ◌≤◌, Bool, true}
use Rattle.std.proofs.Common.{false, not, List, [], ◌∷◌, ◌++◌, map, arith, ◌⊎◌, inl, inr, ⊎_elim}
use Rattle.std.specs.Prelude.{nat_lt, Some, None, is_some, unwrap_or, if◌then◌else◌}
use Rattle.std.specs.List.{flat_map, list_any}
use Rattle.std.specs.Str.{chars, IsUtf8, encode_utf8_all}
use Rattle.std.specs.Char.Escape.{encode_utf16}
use Rattle.std.specs.Char.Utf16.{utf16_chars, lone_unit_char, surrogate_pair_char}
use Rattle.std.specs.Char.Utf16.{has_unpaired_surrogate, utf16_lossy_chars}
use Rattle.std.proofs.lemmas.Str.{utf16_chars-nil, utf16_chars_lone, utf16_chars_pair}
use Rattle.std.proofs.lemmas.Str.{encodes-chars, scalars-chars}
use Rattle.std.proofs.lemmas.Bool.{and_parts, ltb-true, ltb-false, le-ltb, lt-leb, le-leb}
use lib.Utf8.{scalar, scalars, scalar_cases}
use Rattle.java_names.specs.Paths.{utf16_units, name_of_path, path_of_units, path_of_name}
use Rattle.java_names.proofs.ModifiedUtf8.{AllFit}
use Rattle.java_names.proofs.Decoded.{decoded}

-- where a character's number lies
abbrev Place : ℕ → Type 0
Place c = (c < 0xD800) ⊎ ((0xE000 ≤ c) × (c < 0x11_0000))

no_surrogate : (c : ℕ) → Place c → lone_unit_char c ≡ Some c
no_surrogate c (inl l) = rw (lt-leb 0xD800 c l) refl
no_surrogate c (inr h) = let low : 0xE000 ≤ c = h.0 in
    rw (le-ltb c 0xE000 h.0, le-leb 0xD800 c (omega arith)) refl

-- one character in front of others
first_char : (c : ℕ) (units : List ℕ) → Place c
    → utf16_chars (encode_utf16 c ++ units) ≡ Some c ∷ utf16_chars units
first_char c units place = by (nat_lt c 0x1_0000) refl
  where
    by : (b : Bool) → nat_lt c 0x1_0000 ≡ b
        → utf16_chars (encode_utf16 c ++ units) ≡ Some c ∷ utf16_chars units
    by true e =
        rw e (utf16_chars_lone c units
        (λ p. ⊎_elim (λ l. omega (arith, p.0, l)) (λ h. omega (arith, p.1, h.0)) place)
        ∙ ap (λ o. o ∷ utf16_chars units) (no_surrogate c place))
    by false e =
        let high = 0xD800 + (c - 0x1_0000) / 0x400 in
        let low = 0xDC00 + (c - 0x1_0000) % 0x400 in
        let above : 0x1_0000 ≤ c = ltb-false c 0x1_0000 e in
        let below : c < 0x11_0000 = ⊎_elim (λ l. omega (arith, l)) (λ h. h.1) place in
        let is : surrogate_pair_char high low ≡ c = omega arith in
        rw e (utf16_chars_pair high low units (omega arith, omega arith, omega arith, omega arith)
        ∙ ap (λ n. Some n ∷ utf16_chars units) is)

chars_of_units : (cs : List ℕ) → scalars cs ≡ true
    → utf16_chars (flat_map encode_utf16 cs) ≡ map Some cs
chars_of_units [] h = utf16_chars-nil
chars_of_units (c ∷ cs) h =
    let parts = and_parts (scalar c) (scalars cs) h in
    first_char c (flat_map encode_utf16 cs) (scalar_cases c parts.0)
    ∙ ap (λ os. Some c ∷ os) (chars_of_units cs parts.1)

units_fit : (cs : List ℕ) → scalars cs ≡ true → AllFit (flat_map encode_utf16 cs)
units_fit [] h = tt
units_fit (c ∷ cs) h = let parts = and_parts (scalar c) (scalars cs) h in
    by (nat_lt c 0x1_0000) refl (scalar_cases c parts.0) (units_fit cs parts.1)
  where
    by : (b : Bool) → nat_lt c 0x1_0000 ≡ b → Place c → AllFit (flat_map encode_utf16 cs)
        → AllFit (encode_utf16 c ++ flat_map encode_utf16 cs)
    by true e place rest = rw e (ltb-true c 0x1_0000 e, rest)
    by false e place rest =
        let above : 0x1_0000 ≤ c = ltb-false c 0x1_0000 e in
        let below : c < 0x11_0000 = ⊎_elim (λ l. omega (arith, l)) (λ h. h.1) place in
        rw e (omega arith, (omega arith, rest))

all_paired : (cs : List ℕ) → list_any (λ o. not (is_some o)) (map Some cs) ≡ false
all_paired [] = refl
all_paired (c ∷ cs) = all_paired cs

no_lost : (cs : List ℕ) → map (λ o. unwrap_or o 0xFFFD) (map Some cs) ≡ cs
no_lost [] = refl
no_lost (c ∷ cs) = ap (λ ds. c ∷ ds) (no_lost cs)

path_of_chars : (units cs bytes : List ℕ) → utf16_chars units ≡ map Some cs
    → encode_utf8_all cs ≡ bytes → path_of_units (Some units) ≡ Some bytes
path_of_chars units cs bytes e f =
    let paired : has_unpaired_surrogate units
    ≡ false = ap (λ os. list_any (λ o. not (is_some o)) os) e ∙ all_paired cs in
    let lossy : utf16_lossy_chars units ≡ cs = ap (λ os. map (λ o. unwrap_or o 0xFFFD) os) e
    ∙ no_lost cs in
    ap (λ b. if b then None else Some (encode_utf8_all (utf16_lossy_chars units))) paired
    ∙ ap (λ ds. Some (encode_utf8_all ds)) lossy ∙ ap (λ ds. Some ds) f

pub path_again : (path : List ℕ) → IsUtf8 path → path_of_name (name_of_path path) ≡ Some path
path_again path utf8 =
    let all = scalars-chars path utf8 in
    ap path_of_units (decoded (utf16_units path) (units_fit (chars path) all))
    ∙ path_of_chars (utf16_units path) (chars path) path (chars_of_units (chars path) all)
    (encodes-chars path utf8)
