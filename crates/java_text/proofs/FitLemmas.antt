-- The units of a text have 16 bits.
use Rattle.std.proofs.Common.{◌≡◌, ℕ, zero, suc, ◌+◌, ◌*◌, ◌-◌, ◌/◌, ◌%◌, ◌^◌, ◌<◌, Bool, true}
use Rattle.std.proofs.Common.{false, ◌&&◌, ◌==◌, List, [], ◌∷◌, ◌++◌, Option, Some, None, length}
use Rattle.std.proofs.Common.{take, drop, refl, arith, inl, inr, if◌then◌else◌}
use Rattle.std.specs.List.{flat_map, AllByRecursion}
use Rattle.std.specs.Option.{IfSome}
use Rattle.std.specs.Char.{is_digit, digit_value}
use Rattle.std.specs.Char.Escape.{encode_utf16}
use Rattle.std.specs.Str.{chars, IsUtf8, is_utf8}
use Rattle.std.specs.Str.Lossy.{utf8_valid_len, valid_len_up_to}
use Rattle.std.proofs.Math.Utf8.{scalar, scalars, scalar_cases}
use Rattle.std.proofs.lemmas.Str.{scalars-chars, IsUtf8-from_is_utf8, IsUtf8-nil}
use Rattle.std.proofs.lemmas.Bool.{cases_lt, lt-ltb, le-ltb, ltb-true}
use Rattle.java_text.specs.declared.character.TheConstants.{BACKSLASH}
use Rattle.java_text.specs.declared.escape.Input.{Input}
use Rattle.java_text.specs.Source.{raw_units, hex_digit_value, with_digit, four_digits}
use Rattle.java_text.specs.Source.{unicode_escape_value, marker_length, itself, is_eligible}
use Rattle.java_text.specs.Source.{eligible_input, first_input, inputs_up_to, translated, text_of}
use Rattle.java_text.proofs.EscapeLemmas.{units_of}

abbrev pub Fit : List ℕ → Type 0
Fit units = AllByRecursion (λ c. c < 2 ^ 16) units

pub fit-append : (xs ys : List ℕ) → Fit xs → Fit ys → Fit (xs ++ ys)
fit-append [] ys h k = k
fit-append (c ∷ xs) ys h k = (h.0, fit-append xs ys h.1 k)

pub fit-take : (n : ℕ) (xs : List ℕ) → Fit xs → Fit (take n xs)
fit-take zero xs h = tt
fit-take (suc n) [] h = tt
fit-take (suc n) (c ∷ xs) h = (h.0, fit-take n xs h.1)

pub fit-drop : (n : ℕ) (xs : List ℕ) → Fit xs → Fit (drop n xs)
fit-drop zero xs h = h
fit-drop (suc n) [] h = tt
fit-drop (suc n) (c ∷ xs) h = fit-drop n xs h.1

-- UTF-16

character_fits : (c : ℕ) → c < 1114112 → Fit (encode_utf16 c)
character_fits c h = elim (cases_lt c 65536) [
  | inl l ↦ rw (lt-ltb c 65536 l) (l, tt)
  | inr l ↦ (
      let high : 55296 + (c - 65536) / 1024 < 2 ^ 16 = omega arith in
      let low : 56320 + (c - 65536) % 1024 < 2 ^ 16 = omega arith in
      rw (le-ltb c 65536 l) (high, (low, tt)))
]

scalar_below : (c : ℕ) → scalar c ≡ true → c < 1114112
scalar_below c e = elim (scalar_cases c e) [
  | inl l ↦ omega arith
  | inr l ↦ l.1
]

pub and_first : (a b : Bool) → (a && b) ≡ true → a ≡ true
and_first true b e = refl
and_first false b e = cc

pub and_second : (a b : Bool) → (a && b) ≡ true → b ≡ true
and_second true b e = e
and_second false b e = cc

characters_fit : (cs : List ℕ) → scalars cs ≡ true → Fit (flat_map encode_utf16 cs)
characters_fit [] e = tt
characters_fit (c ∷ cs) e =
    fit-append (encode_utf16 c) (flat_map encode_utf16 cs)
    (character_fits c (scalar_below c (and_first (scalar c) (scalars cs) e)))
    (characters_fit cs (and_second (scalar c) (scalars cs) e))

chosen_utf8 : (b : Bool) (bytes : List ℕ) (n m : ℕ) → is_utf8 (take n bytes) ≡ b
    → IsUtf8 (take m bytes) → IsUtf8 (take (if b then n else m) bytes)
chosen_utf8 true bytes n m e h = IsUtf8-from_is_utf8 (take n bytes) e
chosen_utf8 false bytes n m e h = h

front_utf8 : (bytes : List ℕ) (n : ℕ) → IsUtf8 (take (valid_len_up_to bytes n) bytes)
front_utf8 bytes zero = IsUtf8-nil
front_utf8 bytes (suc n) =
    chosen_utf8 (is_utf8 (take (suc n) bytes)) bytes (suc n) (valid_len_up_to bytes n) refl
    (front_utf8 bytes n)

raw_fit : (bytes : List ℕ) → Fit (raw_units bytes)
unfolding utf8_valid_len
raw_fit bytes =
    characters_fit (chars (take (utf8_valid_len bytes) bytes))
    (scalars-chars (take (utf8_valid_len bytes) bytes) (front_utf8 bytes (length bytes)))

-- Unicode escapes

abbrev Below : ℕ → Option ℕ → Type 0
Below bound value = IfSome value (λ v. v < bound)

digit_below : (c : ℕ) → Below 16 (hex_digit_value c)
digit_below c = by (is_digit c 16) refl where
  by : (b : Bool) → is_digit c 16 ≡ b → Below 16 (if b then Some (digit_value c) else None)
  by true e = ltb-true (digit_value c) 16 e
  by false e = tt

one_digit_more : (bound : ℕ) (number digit : Option ℕ) → Below bound number → Below 16 digit
    → Below (bound * 16) (with_digit number digit)
one_digit_more bound None None h k = tt
one_digit_more bound None (Some d) h k = tt
one_digit_more bound (Some n) None h k = tt
one_digit_more bound (Some n) (Some d) h k = omega arith

digits_below : (units : List ℕ) → Below 65536 (four_digits units)
digits_below [] = tt
digits_below (a ∷ []) = tt
digits_below (a ∷ b ∷ []) = tt
digits_below (a ∷ b ∷ c ∷ []) = tt
digits_below (a ∷ b ∷ c ∷ d ∷ units) =
    one_digit_more 4096 _ (hex_digit_value d)
    (one_digit_more 256 _ (hex_digit_value c)
    (one_digit_more 16 (hex_digit_value a) (hex_digit_value b) (digit_below a) (digit_below b))
    (digit_below c)) (digit_below d)

escape_below : (units : List ℕ) → Below 65536 (unicode_escape_value units)
unfolding unicode_escape_value
escape_below units = by (marker_length units == 0) where
  by : (b : Bool) → Below 65536 (if b then None
      else four_digits (drop (marker_length units) units))
  by true = tt
  by false = digits_below (drop (marker_length units) units)

record Split (first : Input × List ℕ) : Type 0 where
  unit : first.0.unit < 2 ^ 16
  rest : Fit first.1

eligible_fits : (value : Option ℕ) (units : List ℕ) → Below 65536 value → Fit units
    → Split (eligible_input value units)
eligible_fits None units h k = record { unit = omega arith; rest = k }
eligible_fits (Some value) units h k = record { unit = h; rest = fit-drop _ units k }

first_fits : (recent : List Input) (c : ℕ) (units : List ℕ) → c < 2 ^ 16 → Fit units
    → Split (first_input recent c units)
first_fits recent c units h k = by (c == BACKSLASH && is_eligible recent) where
  by : (b : Bool)
      → Split (if b then eligible_input (unicode_escape_value units) units else (itself c, units))
  by true = eligible_fits (unicode_escape_value units) units (escape_below units) k
  by false = record { unit = h; rest = k }

inputs_fit : (n : ℕ) (recent : List Input) (units : List ℕ) → Fit units
    → Fit (units_of (inputs_up_to n recent units))
unfolding inputs_up_to
inputs_fit zero recent units h = tt
inputs_fit (suc n) recent [] h = tt
inputs_fit (suc n) recent (c ∷ units) h =
    let split = first_fits recent c units h.0 h.1 in
    (split.unit, inputs_fit n _ (first_input recent c units).1 split.rest)

substitute_fits : (units : List ℕ) (b : Bool) → Fit units
    → Fit (if b then take (length units - 1) units else units)
substitute_fits units true h = fit-take (length units - 1) units h
substitute_fits units false h = h

pub text_fits : (bytes : List ℕ) → Fit (text_of bytes)
unfolding text_of
text_fits bytes =
    substitute_fits (translated (raw_units bytes)) _
    (inputs_fit (length (raw_units bytes)) [] (raw_units bytes) (raw_fit bytes))
