-- Text blocks, line by line.
use Rattle.std.proofs.Common.{◌≡◌, ℕ, suc, ◌+◌, ◌<◌, Bool, true, false, not, ◌==◌, cond}
use Rattle.std.proofs.Common.{List, [], ◌∷◌, ◌++◌, length, take, drop, map, refl, sym, ◌∙◌, ap}
use Rattle.std.proofs.Common.{append_assoc, arith}
use Rattle.std.specs.List.{position_or_len, before_first, onto_first, join_with_byte}
use Rattle.std.proofs.lemmas.List.{drop-drop, length-map}
use Rattle.std.proofs.lemmas.List.Splits.{slice_split_first, length-slice_split}
use Rattle.std.proofs.Math.Seq.{take-length}
use Rattle.java_lexer.specs.LineTerminators.{is_line_feed}
use Rattle.java_lexer.specs.Blocks.{lines, kept, stripped}

-- how many units the first line has
abbrev pub first_length : List ℕ → ℕ
first_length units = position_or_len is_line_feed units

-- a text without a line feed is one line
one_case : (b : Bool) (c : ℕ) (units : List ℕ)
    → (first_length units ≡ length units → lines units ≡ units ∷ [])
    → cond (not b) (1 + first_length units) 0 ≡ suc (length units)
    → cond b ([] ∷ lines units) (onto_first c (lines units)) ≡ (c ∷ units) ∷ []
one_case true c units rest e = absurd (omega (arith, e))
one_case false c units rest e = let same : first_length units ≡ length units = omega (arith, e) in
    ap (onto_first c) (rest same)

pub one_line : (units : List ℕ) → first_length units ≡ length units → lines units ≡ units ∷ []
one_line [] e = refl
one_line (c ∷ units) e = one_case (c == 10) c units (one_line units) e

-- more than one line, joined
joined : (c : ℕ) (line : List ℕ) (ls : List (List ℕ)) → 0 < length ls
    → line ++ c ∷ join_with_byte c ls ≡ join_with_byte c (line ∷ ls)
joined c line [] h = absurd (omega (arith, h))
joined c line (next ∷ ls) h = refl

some_lines : (width : ℕ) (units : List ℕ) → 0 < length (map (kept width) (lines units))
some_lines width units =
    omega (arith, length-map (lines units) (kept width), length-slice_split is_line_feed units)

-- the last line
pub stripped_last : (width : ℕ) (line units out more : List ℕ)
    → line ≡ before_first is_line_feed units → first_length units ≡ length units
    → more ≡ out ++ kept width line → more ≡ out ++ stripped width units
unfolding stripped
stripped_last width line units out more l e m = m
    ∙ ap (λ t. out ++ kept width t) (l ∙ ap (λ n. take n units) e ∙ take-length units)
    ∙ ap (λ ls. out ++ join_with_byte 10 (map (kept width) ls)) (sym (one_line units e))

-- a line, a line feed, and the lines behind it
pub stripped_line : (width : ℕ) (line units out with_line more : List ℕ)
    → line ≡ before_first is_line_feed units → first_length units < length units
    → with_line ≡ out ++ kept width line → more ≡ with_line ++ 10 ∷ []
    → more ++ stripped width (drop (first_length units + 1) units) ≡ out ++ stripped width units
unfolding stripped
stripped_line width line units out with_line more l h k m =
    let rest = drop (first_length units + 1) units in
    ap (λ t. t ++ stripped width rest) (m ∙ ap (λ t. t ++ 10 ∷ []) k)
    ∙ append_assoc (out ++ kept width line) (10 ∷ []) (stripped width rest)
    ∙ append_assoc out (kept width line) (10 ∷ stripped width rest)
    ∙ ap (λ t. out ++ t)
    (joined 10 (kept width line) (map (kept width) (lines rest)) (some_lines width rest))
    ∙ ap (λ t. out ++ join_with_byte 10 (kept width t ∷ map (kept width) (lines rest))) l
    ∙ ap (λ ls. out ++ join_with_byte 10 (map (kept width) ls))
    (sym (slice_split_first is_line_feed units 0 h))

-- the place of the next line
pub further : (at n k : ℕ) (content : List ℕ) → n ≡ k
    → drop (at + n + 1) content ≡ drop (k + 1) (drop at content)
further at n k content e = let same : at + (k + 1) ≡ at + n + 1 = omega arith in
    sym (drop-drop (k + 1) at content ∙ ap (λ m. drop m content) same)
