-- What strings and text blocks stand for has units of 16 bits.
use Rattle.std.proofs.Common.{◌≡◌, ℕ, zero, suc, ◌+◌, ◌*◌, ◌-◌, ◌<◌, ◌≤◌, Bool, true, false}
use Rattle.std.proofs.Common.{◌==◌, nat_lt, List, [], ◌∷◌, length, map, drop, cond, slice_index}
use Rattle.std.proofs.Common.{refl, arith, if◌then◌else◌}
use Rattle.std.specs.List.{concat, list_all, AllByRecursion, after_first, onto_first}
use Rattle.std.specs.List.{join_with_byte}
use Rattle.std.specs.Char.{digit_value}
use Rattle.std.proofs.lemmas.Bool.{ltb-true}
use Rattle.java_text.specs.declared.character.TheConstants.{BACKSLASH, LINE_FEED}
use Rattle.java_text.proofs.FitLemmas.{Fit, fit-append, fit-take, fit-drop, and_first, and_second}
use Rattle.java_lexer.specs.declared.escape.TheConstants.{SIMPLE_ESCAPES}
use Rattle.java_lexer.specs.Escapes.{is_octal_digit, octal_length, octal_value, octal_digit_value}
use Rattle.java_lexer.specs.Escapes.{look_up, escape_value, escape_units, escape_length}
use Rattle.java_lexer.specs.Escapes.{first_item, items_up_to, unescaped, string_units}
use Rattle.java_lexer.specs.LineTerminators.{is_line_feed, begins_with_pair}
use Rattle.java_lexer.specs.LineTerminators.{without_paired_returns, without_return, normalized}
use Rattle.java_lexer.specs.Blocks.{content, lines, margin, kept, stripped, block_units}

fit_index : (i : ℕ) (units : List ℕ) → Fit units → slice_index units i < 65536
fit_index i [] h = omega arith
fit_index zero (c ∷ units) h = h.0
fit_index (suc i) (c ∷ units) h = fit_index i units h.1

-- ---- escapes

digit_small : (c : ℕ) → digit_value c ≤ 36
digit_small c =
    by (nat_lt c 48) refl (nat_lt c 58) refl (nat_lt c 65) refl (nat_lt c 91) refl
    (nat_lt c 97) refl (nat_lt c 123) refl where
      by : (p : Bool) → nat_lt c 48 ≡ p → (q : Bool) → nat_lt c 58 ≡ q → (r : Bool)
          → nat_lt c 65 ≡ r
          → (s : Bool) → nat_lt c 91 ≡ s
          → (t : Bool) → nat_lt c 97 ≡ t → (u : Bool) → nat_lt c 123 ≡ u
          → cond p 36
          (cond q (c - 48) (cond r 36 (cond s (c - 55) (cond t 36 (cond u (c - 87) 36))))) ≤ 36
      by true ep q eq r er s es t et u eu = omega arith
      by false ep true eq r er s es t et u eu = let h = ltb-true c 58 eq in omega (arith, h)
      by false ep false eq true er s es t et u eu = omega arith
      by false ep false eq false er true es t et u eu = let h = ltb-true c 91 es
          in omega (arith, h)
      by false ep false eq false er false es true et u eu = omega arith
      by false ep false eq false er false es false et true eu = let h = ltb-true c 123 eu in
          omega (arith, h)
      by false ep false eq false er false es false et false eu = omega arith

octal_small : (units : List ℕ) → octal_value units < 65536
octal_small units = by (octal_length units == 3) (octal_length units == 2) where
  by : (p q : Bool)
      → (if p
      then (octal_digit_value units 0 * 8 + octal_digit_value units 1) * 8 + octal_digit_value
      units
      2 else (if q then octal_digit_value units 0 * 8 + octal_digit_value units 1
      else octal_digit_value units 0)) < 65536
  by true q =
      omega (
        arith,
        digit_small (slice_index units 0),
        digit_small (slice_index units 1),
        digit_small (slice_index units 2),
      )
  by false true =
      omega (arith, digit_small (slice_index units 0), digit_small (slice_index units 1))
  by false false = omega (arith, digit_small (slice_index units 0))

chosen : (b : Bool) (x y : ℕ) → x < 65536 → y < 65536 → (if b then x else y) < 65536
chosen true x y h k = h
chosen false x y h k = k

chosen_fit : (b : Bool) (xs ys : List ℕ) → Fit xs → Fit ys → Fit (if b then xs else ys)
chosen_fit true xs ys h k = h
chosen_fit false xs ys h k = k

look_up_small : (entries : List (ℕ × ℕ)) (c : ℕ)
    → list_all (λ (entry : ℕ × ℕ). nat_lt entry.1 65536) entries ≡ true → c < 65536
    → look_up entries c < 65536
look_up_small [] c e h = h
look_up_small (entry ∷ entries) c e h =
    chosen (c == entry.0) _ _ (ltb-true entry.1 65536 (and_first _ _ e))
    (look_up_small entries c (and_second (nat_lt entry.1 65536) _ e) h)

value_small : (units : List ℕ) → Fit units → escape_value units < 65536
value_small units h =
    chosen (is_octal_digit (slice_index units 0)) _ _ (octal_small units)
    (look_up_small SIMPLE_ESCAPES (slice_index units 0) refl (fit_index 0 units h))

escape_fits : (units : List ℕ) → Fit units → Fit (escape_units units)
escape_fits units h = chosen_fit (slice_index units 0 == LINE_FEED) _ _ tt
    (value_small units h, tt)

record Split (first : List ℕ × List ℕ) : Type 0 where
  item : Fit first.0
  rest : Fit first.1

first_fits : (c : ℕ) (units : List ℕ) → c < 65536 → Fit units → Split (first_item c units)
first_fits c units h k = by (c == BACKSLASH) where
  by : (b : Bool)
      → Split (if b then (escape_units units, drop (escape_length units) units)
      else (c ∷ [], units))
  by true = record { item = escape_fits units k; rest = fit-drop (escape_length units) units k }
  by false = record { item = (h, tt); rest = k }

items_fit : (n : ℕ) (units : List ℕ) → Fit units → Fit (concat (items_up_to n units))
unfolding items_up_to
items_fit zero units h = tt
items_fit (suc n) [] h = tt
items_fit (suc n) (c ∷ units) h =
    let split = first_fits c units h.0 h.1 in
    fit-append (first_item c units).0 (concat (items_up_to n (first_item c units).1)) split.item
    (items_fit n (first_item c units).1 split.rest)

unescaped_fits : (units : List ℕ) → Fit units → Fit (unescaped units)
unescaped_fits units h = items_fit (length units) units h

pub string_fits : (units : List ℕ) → Fit units → Fit (string_units units)
string_fits units h =
    unescaped_fits _ (fit-take (length units - 2) (drop 1 units) (fit-drop 1 units h))

-- ---- text blocks

paired_fits : (units : List ℕ) → Fit units → Fit (without_paired_returns units)
unfolding without_paired_returns
paired_fits [] h = tt
paired_fits (c ∷ units) h =
    chosen_fit (begins_with_pair (c ∷ units)) _ _ (paired_fits units h.1)
    (h.0, paired_fits units h.1)

returns_fit : (units : List ℕ) → Fit units → Fit (map without_return units)
returns_fit [] h = tt
returns_fit (c ∷ units) h = (chosen (c == 13) 10 c (omega arith) h.0, returns_fit units h.1)

normalized_fits : (units : List ℕ) → Fit units → Fit (normalized units)
unfolding normalized
normalized_fits units h = returns_fit (without_paired_returns units) (paired_fits units h)

abbrev AllFit : List (List ℕ) → Type 0
AllFit ls = AllByRecursion Fit ls

onto_first_fits : (c : ℕ) (ls : List (List ℕ)) → c < 65536 → AllFit ls → AllFit (onto_first c ls)
onto_first_fits c [] h k = ((h, tt), tt)
onto_first_fits c (line ∷ ls) h k = ((h, k.0), k.1)

chosen_lines : (b : Bool) (xs ys : List (List ℕ)) → AllFit xs → AllFit ys → AllFit (cond b xs ys)
chosen_lines true xs ys h k = h
chosen_lines false xs ys h k = k

lines_fit : (units : List ℕ) → Fit units → AllFit (lines units)
lines_fit [] h = (tt, tt)
lines_fit (c ∷ units) h =
    chosen_lines (c == 10) _ _ (tt, lines_fit units h.1)
    (onto_first_fits c (lines units) h.0 (lines_fit units h.1))

kept_fits : (width : ℕ) (line : List ℕ) → Fit line → Fit (kept width line)
kept_fits width line h = fit-take _ (drop width line) (fit-drop width line h)

joined_fits : (width : ℕ) (ls : List (List ℕ)) → AllFit ls
    → Fit (join_with_byte LINE_FEED (map (kept width) ls))
joined_fits width [] h = tt
joined_fits width (line ∷ []) h = kept_fits width line h.0
joined_fits width (line ∷ next ∷ ls) h =
    fit-append (kept width line) _ (kept_fits width line h.0)
    (omega arith, joined_fits width (next ∷ ls) h.1)

content_fits : (units : List ℕ) → Fit units → Fit (content units)
content_fits units h = let inner = after_first is_line_feed (normalized units) in
    fit-take (length inner - 3) inner (fit-drop _ (normalized units) (normalized_fits units h))

pub block_fits : (units : List ℕ) → Fit units → Fit (block_units units)
unfolding stripped
block_fits units h =
    unescaped_fits _
    (joined_fits (margin (content units)) (lines (content units))
    (lines_fit (content units) (content_fits units h)))
