-- The folders of a path, one after the other.
use Rattle.std.proofs.Common.{◌≡◌, ℕ, ◌+◌, ◌<◌, Bool, true, false, cond, not, eqb, ltb, List, []}
use Rattle.std.proofs.Common.{◌∷◌, length, take, drop, refl, sym, ap, ◌∙◌, arith}
use Rattle.std.specs.Prelude.{Option, Some, None, option_map}
use Rattle.std.specs.List.{slice_split, onto_first, position_or_len, before_first, after_first}
use Rattle.std.proofs.lemmas.Bool.{ltb-true, ltb-false}
use Rattle.std.proofs.lemmas.Bool.Decides.{nat_tests}
use Rattle.std.proofs.lemmas.List.Splits.{slice_split_first}
use Rattle.used_files.specs.Paths.{parts_of, first_folder, front_of, last_of, last_part}

-- the parts of a path are one at least
record IsFilled (parts : List (List ℕ)) : Type 0 where
  first : List ℕ
  others : List (List ℕ)
  is : parts ≡ first ∷ others

abbrev is_slash : ℕ → Bool
is_slash b = eqb b 47

filled : (path : List ℕ) → IsFilled (parts_of path)
filled [] = record { first = []; others = []; is = refl }
filled (b ∷ bs) = by (is_slash b) (slice_split is_slash bs)
  where
    by : (t : Bool) (parts : List (List ℕ)) → IsFilled (cond t ([] ∷ parts) (onto_first b parts))
    by true parts = record { first = []; others = parts; is = refl }
    by false [] = record { first = b ∷ []; others = []; is = refl }
    by false (part ∷ parts) = record { first = b ∷ part; others = parts; is = refl }

front-cons : (first : List ℕ) (parts : List (List ℕ)) → IsFilled parts
    → front_of (first ∷ parts) ≡ first ∷ front_of parts
front-cons first parts f = ap (λ ps. front_of (first ∷ ps)) f.is
    ∙ sym (ap (λ ps. first ∷ front_of ps) f.is)

not_below : (m n : ℕ) → n < m + 1 → ltb m n ≡ false
not_below m n h = grind (arith, nat_tests)

-- a path without '/' is one part
whole : (path : List ℕ) → ltb (position_or_len is_slash path) (length path) ≡ false
    → parts_of path ≡ path ∷ []
whole [] e = refl
whole (b ∷ bs) e = by (is_slash b) e (whole bs)
  where
    by : (t : Bool)
        → ltb (cond (not t) (1 + position_or_len is_slash bs) 0) (length (b ∷ bs)) ≡ false
        → (ltb (position_or_len is_slash bs) (length bs) ≡ false → parts_of bs ≡ bs ∷ [])
        → cond t ([] ∷ parts_of bs) (onto_first b (parts_of bs)) ≡ (b ∷ bs) ∷ []
    by true e rest = absurd (let h = ltb-false 0 (length (b ∷ bs)) e in omega arith)
    by false e rest =
        let h = ltb-false (1 + position_or_len is_slash bs) (length (b ∷ bs)) e in
        ap (onto_first b) (rest (not_below (position_or_len is_slash bs) (length bs)
        (omega arith)))

abbrev parts_at : List ℕ → Bool → Option (List ℕ × List ℕ)
parts_at path there =
    option_map (λ at. (take at path, drop (at + 1) path))
    (cond there (Some (position_or_len is_slash path)) None)

-- a path that has a '/' has the folder before it
pub has_folder : (path folder behind : List ℕ) → first_folder path ≡ Some (folder, behind)
    → front_of (parts_of path) ≡ folder ∷ front_of (parts_of behind)
has_folder path folder behind e = by (ltb (position_or_len is_slash path) (length path)) refl e
  where
    by : (there : Bool) → ltb (position_or_len is_slash path) (length path) ≡ there
        → parts_at path there ≡ Some (folder, behind)
        → front_of (parts_of path) ≡ folder ∷ front_of (parts_of behind)
    by true t is =
        let pair : (before_first is_slash path, after_first is_slash path) ≡ (folder, behind) =
        cc in
        ap front_of (slice_split_first is_slash path 0 (ltb-true _ _ t))
        ∙ front-cons (before_first is_slash path) (parts_of (after_first is_slash path))
        (filled (after_first is_slash path))
        ∙ ap (λ (p : List ℕ × List ℕ). p.0 ∷ front_of (parts_of p.1)) pair
    by false t is = absurd cc

pub has_none : (path : List ℕ) → first_folder path ≡ None → front_of (parts_of path) ≡ []
has_none path e = by (ltb (position_or_len is_slash path) (length path)) refl e
  where
    by : (there : Bool) → ltb (position_or_len is_slash path) (length path) ≡ there
        → parts_at path there ≡ None → front_of (parts_of path) ≡ []
    by true t is = absurd cc
    by false t is = ap front_of (whole path t)

-- the last part

last-cons : (first : List ℕ) (parts : List (List ℕ)) → IsFilled parts
    → last_of (first ∷ parts) ≡ last_of parts
last-cons first parts f = ap (λ ps. last_of (first ∷ ps)) f.is ∙ sym (ap last_of f.is)

pub last_behind : (path folder behind : List ℕ) → first_folder path ≡ Some (folder, behind)
    → last_part path ≡ last_part behind
last_behind path folder behind e = by (ltb (position_or_len is_slash path) (length path)) refl e
  where
    by : (there : Bool) → ltb (position_or_len is_slash path) (length path) ≡ there
        → parts_at path there ≡ Some (folder, behind) → last_part path ≡ last_part behind
    by true t is =
        let pair : (before_first is_slash path, after_first is_slash path)
        ≡ (folder, behind) = cc in
        ap last_of (slice_split_first is_slash path 0 (ltb-true _ _ t))
        ∙ last-cons (before_first is_slash path) (parts_of (after_first is_slash path))
        (filled (after_first is_slash path))
        ∙ ap (λ (p : List ℕ × List ℕ). last_of (parts_of p.1)) pair
    by false t is = absurd cc

pub last_whole : (path : List ℕ) → first_folder path ≡ None → last_part path ≡ path
last_whole path e = by (ltb (position_or_len is_slash path) (length path)) refl e
  where
    by : (there : Bool) → ltb (position_or_len is_slash path) (length path) ≡ there
        → parts_at path there ≡ None → last_part path ≡ path
    by true t is = absurd cc
    by false t is = ap last_of (whole path t)
