-- Line terminators, unit by unit.
use Rattle.std.proofs.Common.{◌≡◌, ℕ, ◌+◌, ◌<◌, ◌≤◌, Bool, true, false, ◌&&◌, ◌||◌, not, ◌==◌}
use Rattle.std.proofs.Common.{cond, List, [], ◌∷◌, ◌++◌, length, map, filter, drop, get_or}
use Rattle.std.proofs.Common.{refl, sym, ◌∙◌, ap, append_assoc, append-nil, arith}
use Rattle.std.proofs.Common.{if◌then◌else◌}
use Rattle.std.proofs.lemmas.Bool.{eqb-true}
use Rattle.std.proofs.lemmas.List.{drop_all, drop_more}
use Rattle.java_lexer.specs.LineTerminators.{is_line_feed, begins_with_pair}
use Rattle.java_lexer.specs.LineTerminators.{without_paired_returns, without_return, normalized}
use Rattle.java_lexer.specs.LineTerminators.{line_ends}
use Rattle.java_lexer.specs.Cutting.{ends_begun}
use Rattle.java_lexer.proofs.EscapeLemmas.{differs}

and_false : (b : Bool) → (b && false) ≡ false
and_false true = refl
and_false false = refl

-- ---- each line terminator as a line feed

skipped : (c : ℕ) (units : List ℕ) → begins_with_pair (c ∷ units) ≡ true
    → normalized (c ∷ units) ≡ normalized units
unfolding normalized without_paired_returns
skipped c units e =
    ap (λ b. map without_return (if b then without_paired_returns units
    else c ∷ without_paired_returns units)) e

translated : (c : ℕ) (units : List ℕ) → begins_with_pair (c ∷ units) ≡ false
    → normalized (c ∷ units) ≡ without_return c ∷ normalized units
unfolding normalized without_paired_returns
translated c units e =
    ap (λ b. map without_return (if b then without_paired_returns units
    else c ∷ without_paired_returns units)) e

-- the units behind a place, behind what has been normalized
pub pair_skipped : (i : ℕ) (units out : List ℕ) → i < length units
    → begins_with_pair (drop i units) ≡ true
    → out ++ normalized (drop (i + 1) units) ≡ out ++ normalized (drop i units)
pair_skipped i units out h e =
    ap (λ t. out ++ t)
    (sym (ap normalized (drop_more units i 0 h)
    ∙ skipped (get_or units i 0) (drop (i + 1) units)
    (ap begins_with_pair (sym (drop_more units i 0 h)) ∙ e)))

pub unit_kept : (i u : ℕ) (units out more : List ℕ) → i < length units
    → begins_with_pair (drop i units) ≡ false → u ≡ without_return (get_or units i 0)
    → more ≡ out ++ u ∷ []
    → more ++ normalized (drop (i + 1) units) ≡ out ++ normalized (drop i units)
unit_kept i u units out more h e v m =
    ap (λ t. t ++ normalized (drop (i + 1) units)) m
    ∙ append_assoc out (u ∷ []) (normalized (drop (i + 1) units))
    ∙ ap (λ x. out ++ x ∷ normalized (drop (i + 1) units)) v
    ∙ ap (λ t. out ++ t)
    (sym (ap normalized (drop_more units i 0 h)
    ∙ translated (get_or units i 0) (drop (i + 1) units)
    (ap begins_with_pair (sym (drop_more units i 0 h)) ∙ e)))

pub all_normalized : (i : ℕ) (units out : List ℕ) → length units ≤ i
    → out ++ normalized (drop i units) ≡ normalized units → out ≡ normalized units
unfolding normalized without_paired_returns
all_normalized i units out h e = sym (append-nil out) ∙ (rw (drop_all i units h) at e)

-- ---- how many line terminators there are

abbrev begins_with_feed : List ℕ → Bool
begins_with_feed [] = false
begins_with_feed (c ∷ units) = c == 10

begins : (c : ℕ) (units : List ℕ)
    → begins_with_pair (c ∷ units) ≡ (c == 13 && begins_with_feed units)
begins c [] = sym (and_false (c == 13))
begins c (d ∷ units) = refl

counted : (q : Bool) (c : ℕ) (units : List ℕ)
    → length (cond q (c ∷ units) units) ≡ (if q then 1 else 0) + length units
counted true c units = omega arith
counted false c units = omega arith

-- a CR or an LF that isn't the CR of a pair is counted
counted_unit : (p : Bool) (c : ℕ) (units : List ℕ)
    → length (filter is_line_feed ((if p then 10 else c) ∷ units))
    ≡ (if p || c == 10 then 1 else 0) + length (filter is_line_feed units)
counted_unit true c units = omega arith
counted_unit false c units = counted (c == 10) c (filter is_line_feed units)

one_unit : (b : Bool) (c : ℕ) (units : List ℕ) → begins_with_pair (c ∷ units) ≡ b
    → line_ends (c ∷ units)
    ≡ (if b then 0 else (if c == 13 || c == 10 then 1 else 0)) + line_ends units
one_unit true c units e =
    omega (arith, ap (λ t. length (filter is_line_feed t)) (skipped c units e))
one_unit false c units e = ap (λ t. length (filter is_line_feed t)) (translated c units e)
    ∙ counted_unit (c == 13) c (normalized units)

apart : (c : ℕ) → (c == 13) ≡ true → (c == 10) ≡ false
apart c e = differs c 10 (λ same. omega (arith, same, eqb-true c 13 e))

-- r: a CR stands before; p: a CR; q: an LF; f: an LF follows
sums : (r p q f : Bool) (l n : ℕ) → (p ≡ true → q ≡ false) → l + (if p && f then 1 else 0) ≡ n
    → ((if p || (q && not r) then 1 else 0) + l) + (if r && q then 1 else 0)
    ≡ (if p && f then 0 else (if p || q then 1 else 0)) + n
sums r true true f l n a e = absurd (true_is_false (a refl)) where
  true_is_false : true ≡ false → ⊥
  true_is_false e = cc
sums true true false true l n a e = omega (arith, e)
sums true true false false l n a e = omega (arith, e)
sums false true false true l n a e = omega (arith, e)
sums false true false false l n a e = omega (arith, e)
sums true false true f l n a e = omega (arith, e)
sums false false true f l n a e = omega (arith, e)
sums true false false f l n a e = omega (arith, e)
sums false false false f l n a e = omega (arith, e)

nothing : (r : Bool) → 0 + (if r && false then 1 else 0) ≡ 0
nothing true = refl
nothing false = refl

counted_behind : (r : Bool) (units : List ℕ)
    → ends_begun r units + (if r && begins_with_feed units then 1 else 0) ≡ line_ends units
unfolding ends_begun normalized without_paired_returns
counted_behind r [] = nothing r
counted_behind r (c ∷ units) =
    sums r (c == 13) (c == 10) (begins_with_feed units) (ends_begun (c == 13) units)
    (line_ends units) (apart c) (counted_behind (c == 13) units)
    ∙ sym (one_unit (c == 13 && begins_with_feed units) c units (begins c units))

-- what begin in the units are as many as the units have, where no CR stands before them
pub all_counted : (units : List ℕ) → ends_begun false units ≡ line_ends units
all_counted units = omega (arith, counted_behind false units)
