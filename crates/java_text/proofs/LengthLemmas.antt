-- A text has no more units than its source has bytes.
use Rattle.std.proofs.Common.{◌≡◌, ℕ, zero, suc, ◌+◌, ◌-◌, ◌≤◌, Bool, true, false, ◌&&◌, ◌==◌}
use Rattle.std.proofs.Common.{nat_lt, List, [], ◌∷◌, length, take, refl, ◌∙◌, ap, arith}
use Rattle.std.proofs.Common.{length-append, if◌then◌else◌, inl, inr, slice_index}
use Rattle.std.specs.List.{flat_map}
use Rattle.std.specs.Str.{chars, IsUtf8, encode_utf8_all}
use Rattle.std.specs.Char.Escape.{encode_utf16}
use Rattle.std.specs.Char.{encode_utf8, len_utf8}
use Rattle.std.specs.Str.Lossy.{utf8_valid_len}
use Rattle.std.proofs.lemmas.Str.{length-encode, encodes-chars, utf8_valid_len_le, len_utf8_bounds}
use Rattle.std.proofs.lemmas.Bool.{cases_lt, lt-ltb, le-ltb, eqb-false}
use Rattle.std.proofs.lemmas.List.{length-take-le, length-take}
use Rattle.java_text.specs.declared.escape.Input.{Input}
use Rattle.java_text.specs.Source.{first_input, inputs_up_to, without_last_substitute, text_of}
use Rattle.java_text.specs.Source.{raw_units, translated, is_all_utf8}
use Rattle.java_text.proofs.EscapeLemmas.{units_of, rest_within}

chosen_length : (b : Bool) (xs ys : List ℕ) (n : ℕ) → length xs ≤ n → length ys ≤ n
    → length (if b then xs else ys) ≤ n
chosen_length true xs ys n x y = x
chosen_length false xs ys n x y = y

length-inputs : (n : ℕ) (recent : List Input) (units : List ℕ)
    → length (units_of (inputs_up_to n recent units)) ≤ length units
unfolding inputs_up_to
length-inputs zero recent units = omega arith
length-inputs (suc n) recent [] = omega arith
length-inputs (suc n) recent (c ∷ units) =
    let first = first_input recent c units in
    let h = length-inputs n (first.0 ∷ recent) first.1 in
    omega (arith, h, rest_within recent c units)

one_character : (c : ℕ) → length (encode_utf16 c) ≤ length (encode_utf8 c)
one_character c = elim (cases_lt c 65536) [
  | inl h ↦ (let e : length (encode_utf16 c) ≡ 1 = rw (lt-ltb c 65536 h) refl in
      omega (arith, e, (len_utf8_bounds c).0, length-encode c))
  | inr h ↦ (
      let e : length (encode_utf16 c) ≡ 2 = rw (le-ltb c 65536 h) refl in
      let two : 2048 ≤ c = omega arith in
      let one : 128 ≤ c = omega arith in
      let f : len_utf8 c ≡ 4 = rw (le-ltb c 128 one, le-ltb c 2048 two, le-ltb c 65536 h) refl in
      omega (arith, e, f, length-encode c))
]

pub length-utf16 : (cs : List ℕ) → length (flat_map encode_utf16 cs) ≤ length (encode_utf8_all cs)
length-utf16 [] = omega arith
length-utf16 (c ∷ cs) = let h = length-utf16 cs in let k = one_character c in
    omega (
      arith,
      h,
      k,
      length-append (encode_utf16 c) (flat_map encode_utf16 cs),
      length-append (encode_utf8 c) (encode_utf8_all cs),
    )

kept_length : (units : List ℕ) → length (without_last_substitute units) ≤ length units
kept_length units =
    chosen_length (nat_lt 0 (length units) && slice_index units (length units - 1) == 26) _ _
    (length units)
    (omega (arith, length-take (length units - 1) units)) (omega arith)

one_spare : (b : Bool) (n m : ℕ) → (n == m) ≡ b → n ≤ m → n + (if b then 0 else 1) ≤ m
one_spare true n m e h = omega arith
one_spare false n m e h = let d = eqb-false n m e in omega (arith, d)

-- the text is no longer than the bytes, and shorter where a byte is no UTF-8
pub text_length : (bytes : List ℕ) → IsUtf8 (take (utf8_valid_len bytes) bytes)
    → length (text_of bytes) + (if is_all_utf8 bytes then 0 else 1) ≤ length bytes
unfolding text_of
text_length bytes u =
    let front = take (utf8_valid_len bytes) bytes in
    let a = kept_length (translated (raw_units bytes)) in
    let b = length-inputs (length (raw_units bytes)) [] (raw_units bytes) in
    let d = length-utf16 (chars front) in
    let e : length (encode_utf8_all (chars front)) ≡ utf8_valid_len bytes =
    ap length (encodes-chars front u)
    ∙ length-take-le (utf8_valid_len bytes) bytes (utf8_valid_len_le bytes) in
    let f =
    one_spare (is_all_utf8 bytes) (utf8_valid_len bytes) (length bytes) refl
    (utf8_valid_len_le bytes) in
    omega (arith, a, b, d, e, f)
