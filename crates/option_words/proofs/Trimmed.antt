-- A path, without the '/' at its end.
use Rattle.std.proofs.Common.{◌≡◌, ◌≢◌, ℕ, ◌-◌, Bool, true, false, eqb, cond, List, [], ◌∷◌, ◌++◌}
use Rattle.std.proofs.Common.{length, take, drop, refl, sym, ap, ◌∙◌, arith, lit<}
use Rattle.std.proofs.lemmas.List.{take-append-drop, drop_all}
use Rattle.std.proofs.lemmas.Str.Pattern.{drop_at_char}
use Rattle.std.specs.Prelude.{Some, None}
use lib.Utf8.{encode}
use Rattle.std.specs.Str.Pattern.{FindsCharSuffix, CutsSuffixes, IsTrimEndMatches}
use Rattle.std.proofs.lemmas.Bool.{eqb-true}
use Rattle.option_words.specs.Paths.{before_trimmed, trimmed}

pub trimmed-slash : (path : List ℕ) → trimmed (path ++ 47 ∷ []) ≡ trimmed path
trimmed-slash [] = refl
trimmed-slash (b ∷ bs) = ap (before_trimmed b) (trimmed-slash bs)

-- a path that doesn't end in '/' stays
pub trimmed_same : (path : List ℕ) → ((front : List ℕ) → path ≢ front ++ 47 ∷ [])
    → trimmed path ≡ path
trimmed_same [] never = refl
trimmed_same (b ∷ []) never = by (eqb b 47) refl
  where
    by : (t : Bool) → eqb b 47 ≡ t → cond t [] (b ∷ []) ≡ b ∷ []
    by true e = absurd (never [] (ap (λ (x : ℕ). x ∷ []) (eqb-true b 47 e)))
    by false e = refl
trimmed_same (b ∷ (c ∷ cs)) never =
    ap (before_trimmed b)
    (trimmed_same (c ∷ cs) (λ front e. never (b ∷ front) (ap (λ (xs : List ℕ). b ∷ xs) e)))

cut : (m r : List ℕ) (n : ℕ) → FindsCharSuffix 47 m (Some n) → r ≡ take (length m - n) m
    → trimmed r ≡ trimmed m
cut m r n found is =
    let i = length m - n in
    let last : drop i m ≡ 47 ∷ [] = drop_at_char 47 m i (length m) found.1 (lit< tt)
    ∙ ap (λ (t : List ℕ). 47 ∷ t) (drop_all (length m) m (omega arith)) in
    let whole : m ≡ r ++ 47 ∷ [] = sym (take-append-drop i m)
    ∙ ap (λ (t : List ℕ). take i m ++ t) last ∙ ap (λ (t : List ℕ). t ++ 47 ∷ []) (sym is) in
    sym (ap trimmed whole ∙ trimmed-slash r)

cuts : (path short : List ℕ) (ns : List ℕ) → CutsSuffixes (FindsCharSuffix 47) path ns short
    → trimmed short ≡ trimmed path
cuts path short [] e = ap trimmed e
cuts path short (n ∷ ns) (m, before, found, is) = cut m short n found is ∙ cuts path m ns before

-- what `trim_end_matches` answers
pub is_trimmed : (path short : List ℕ) → IsTrimEndMatches (FindsCharSuffix 47) path short
    → short ≡ trimmed path
unfolding encode
is_trimmed path short ((ns, cut_off), (None, stays, empty)) = sym (trimmed_same short stays)
    ∙ cuts path short ns cut_off
is_trimmed path short ((ns, cut_off), (Some n, found, empty)) =
    absurd (let one : n ≡ 1 = found.0 in omega arith)
