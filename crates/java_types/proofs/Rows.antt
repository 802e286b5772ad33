-- Rows of values are taken for themselves.
use Rattle.std.proofs.Common.{◌≡◌, refl, sym, ap, ◌∙◌, subst, ℕ, zero, suc, ◌+◌, ◌≤◌, ◌==◌, not}
use Rattle.std.proofs.Common.{Bool, true, false, List, [], ◌∷◌, ◌++◌, length, take, drop}
use Rattle.std.proofs.Common.{append_assoc, length-append, if◌then◌else◌, arith}
use Rattle.std.specs.List.{flat_map, position_or_len, AllByRecursion}
use Rattle.std.proofs.Math.Seq.{take-append_seam, drop-append_seam}
use Rattle.java_types.specs.Fronts.{begins_with}
use Rattle.java_types.specs.Trees.{many, enclosed, name}

-- a choice that is known
pub chosen : {A : Type 0} (test : Bool) (x y : A) → test ≡ true → (if test then x else y) ≡ x
chosen true x y e = refl
chosen false x y e = absurd (cc)

pub not_chosen : {A : Type 0} (test : Bool) (x y : A) → test ≡ false → (if test then x else y) ≡ y
not_chosen true x y e = absurd (cc)
not_chosen false x y e = refl

-- what is taken at the front of a text, with a good text behind it: the value, and the row goes on
pub record IsTaken {X : Type 0} (stops : List ℕ → Bool) (item : List ℕ → X × List ℕ) (text : X
    → List ℕ) (Good : List ℕ → Type 0) (x : X) (more : List ℕ) : Type 0 where
  pub some : 1 ≤ length (text x)
  pub goes_on : stops (text x ++ more) ≡ false
  pub taken : item (text x ++ more) ≡ (x, more)
  pub good : Good (text x ++ more)

abbrev pub Taken : {X : Type 0} → (List ℕ → Bool) → (List ℕ → X × List ℕ) → (X → List ℕ)
    → (List ℕ → Type 0) → X → Type 0
Taken stops item text Good x = (more : List ℕ) → Good more → IsTaken stops item text Good x more

module _ {X : Type 0} (stops : List ℕ → Bool) (item : List ℕ → X × List ℕ) (text : X
    → List ℕ) (Good : List ℕ → Type 0) where
  front_good : (xs : List X) → AllByRecursion (Taken stops item text Good) xs → (more : List ℕ)
      → Good more → Good (flat_map text xs ++ more)
  front_good [] all more g = g
  front_good (x ∷ xs) all more g =
      subst Good (sym (append_assoc (text x) (flat_map text xs) more)) (all.0
      (flat_map text xs ++ more) (front_good xs all.1 more g)).good

  step : (n : ℕ) (whole rest more : List ℕ) (x : X) (xs : List X) → stops whole ≡ false
      → item whole ≡ (x, rest) → many stops item n rest ≡ (xs, more)
      → many stops item (suc n) whole ≡ (x ∷ xs, more)
  step n whole rest more x xs goes_on taken later =
      not_chosen (stops whole) ([], whole) (
        (item whole).0 ∷
            (many stops item n (item whole).1).0,
        (many stops item n (item whole).1).1,
      ) goes_on
      ∙ ap (λ (first : X × List ℕ).
      (first.0 ∷ (many stops item n first.1).0, (many stops item n first.1).1)) taken
      ∙ ap (λ (others : List X × List ℕ). (x ∷ others.0, others.1)) later

  pub many_taken : (xs : List X) (n : ℕ) (more : List ℕ) → length (flat_map text xs) ≤ n
      → AllByRecursion (Taken stops item text Good) xs → Good more → stops more ≡ true
      → many stops item n (flat_map text xs ++ more) ≡ (xs, more)
  many_taken [] zero more few all g end = refl
  many_taken [] (suc n) more few all g end = chosen (stops more) ([], more) _ end
  many_taken (x ∷ xs) zero more few all g end =
      let some = (all.0 (flat_map text xs ++ more) (front_good xs all.1 more g)).some in
      let sum : length (flat_map text (x ∷ xs)) ≡ length (text x) + length (flat_map text xs)
      = length-append (text x) (flat_map text xs) in
      absurd (omega arith)
  many_taken (x ∷ xs) (suc n) more few all g end =
      let rest = flat_map text xs ++ more in
      let first = all.0 rest (front_good xs all.1 more g) in
      let some = first.some in
      let sum : length (flat_map text (x ∷ xs)) ≡ length (text x) + length (flat_map text xs)
      = length-append (text x) (flat_map text xs) in
      ap (many stops item (suc n)) (append_assoc (text x) (flat_map text xs) more)
      ∙ step n (text x ++ rest) rest more x xs first.goes_on first.taken (many_taken xs n more
      (omega arith) all.1 g end)

-- an item behind a byte of its own
pub behind_mark : {X : Type 0} (mark : ℕ) (item : List ℕ → X × List ℕ) (text : X
    → List ℕ) (Good : List ℕ → Type 0) (x : X) → mark == mark ≡ true
    → ((more : List ℕ) → Good more → item (text x ++ more) ≡ (x, more))
    → ((more : List ℕ) → Good (mark ∷ more))
    → Taken (λ rest. not (begins_with mark rest)) (λ rest. item
    (drop 1 rest)) (λ x. mark ∷ text x) Good x
behind_mark mark item text Good x same taken good more g = record {
  some = omega arith;
  goes_on = ap not same;
  taken = taken more g;
  good = good (text x ++ more);
}

-- a name, before a byte that ends it
pub name_taken : (ends : ℕ → Bool) (front more : List ℕ)
    → position_or_len ends (front ++ more) ≡ length front
    → name ends (front ++ more) ≡ (front, more)
name_taken ends front more place =
    ap (λ n. (take n (front ++ more), drop n (front ++ more))) place
    ∙ ap (λ (x : List ℕ). (x, drop (length front) (front ++ more))) (take-append_seam front more)
    ∙ ap (λ (y : List ℕ). (front, y)) (drop-append_seam front more)

-- the text of values between < and >, where there are some
abbrev pub enclosed_text : {X : Type 0} → (X → List ℕ) → List X → List ℕ
enclosed_text text [] = []
enclosed_text text (x ∷ xs) = 60 ∷ (flat_map text (x ∷ xs) ++ (62 ∷ []))

pub enclosed_taken : {X : Type 0} (item : List ℕ → X × List ℕ) (text : X → List ℕ) (Good : List ℕ
    → Type 0) (xs : List X) (n : ℕ) (more : List ℕ)
    → length (enclosed_text text xs) ≤ n →
    AllByRecursion (Taken (begins_with 62) item text Good) xs
    → Good (62 ∷ more) → (xs ≡ [] → begins_with 60 more ≡ false)
    → enclosed item n (enclosed_text text xs ++ more) ≡ (xs, more)
enclosed_taken {X} item text Good [] n more few all g none
    = not_chosen (begins_with 60 more) _ ([], more) (none refl)
enclosed_taken {X} item text Good (x ∷ xs) n more few all g none =
    let row = flat_map text (x ∷ xs) in
    let sum : length (row ++ (62 ∷ [])) ≡ length row + 1 = length-append row (62 ∷ []) in
    let fits : length row ≤ n = omega arith in
    ap (λ (rest : List ℕ).
    ((many (begins_with 62) item n rest).0, drop 1 (many (begins_with 62) item n rest).1))
    (append_assoc row (62 ∷ []) more)
    ∙ ap (λ (inside : List X × List ℕ). (inside.0, drop 1 inside.1)) (many_taken
    (begins_with 62) item text Good (x ∷ xs) n (62 ∷ more) fits all g refl)
