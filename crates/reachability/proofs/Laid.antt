-- Lists of numbers that are laid out one behind the other.
use Rattle.std.proofs.Common.{◌≡◌, refl, ap, sym, ◌∙◌, ℕ, zero, suc, ◌+◌, ◌-◌, ◌≤◌, ◌<◌, List, []}
use Rattle.std.proofs.Common.{◌∷◌, ◌++◌, length, take, drop, get_or, arith, length-append}
use Rattle.std.proofs.Math.Seq.{drop-append_seam}
use Rattle.std.proofs.lemmas.List.{take_all, take-append-le, drop-append-le, length-drop}
use Rattle.reachability.specs.Flat.{rows_from, AreLaidOut, IsBetween}

pub length_rows : (start : ℕ) (ends numbers : List ℕ) → length (rows_from start ends numbers)
    ≡ length ends
length_rows start [] numbers = refl
length_rows start (end ∷ ends) numbers = ap suc (length_rows end ends numbers)

pub laid_within : (start : ℕ) (ends numbers : List ℕ) → AreLaidOut start ends numbers →
    start ≤ length numbers
laid_within start [] numbers laid = omega (arith, laid)
laid_within start (end ∷ ends) numbers laid = let more = laid_within end ends numbers laid.1
    in omega (arith, laid.0, more)

-- ---- one more list

pub laid_more : (start : ℕ) (ends numbers row : List ℕ) → AreLaidOut start ends numbers →
    AreLaidOut start (ends ++ (length numbers + length row) ∷ []) (numbers ++ row)
laid_more start [] numbers row laid = (omega (arith, laid), sym (length-append numbers row))
laid_more start (end ∷ ends) numbers row laid = (laid.0, laid_more end ends numbers row laid.1)

last_row : (start : ℕ) (numbers row : List ℕ) → start ≡ length numbers →
    take (length numbers + length row - start) (drop start (numbers ++ row)) ≡ row
last_row start numbers row at =
    let rest : drop start (numbers ++ row) ≡ row = ap (λ n. drop n (numbers ++ row)) at
    ∙ drop-append_seam numbers row in
    ap (take (length numbers + length row - start)) rest
    ∙ take_all (length numbers + length row - start) row (omega (arith, at))

same_row : (start end : ℕ) (numbers row : List ℕ) → start ≤ end → end ≤ length numbers →
    take (end - start) (drop start (numbers ++ row)) ≡ take (end - start) (drop start numbers)
same_row start end numbers row below within =
    let left = length-drop start numbers in
    ap (take (end - start)) (drop-append-le start numbers row (omega (arith, below, within)))
    ∙ take-append-le (end - start) (drop start numbers) row (omega (arith, left, within))

pub rows_more : (start : ℕ) (ends numbers row : List ℕ) → AreLaidOut start ends numbers
    → rows_from start (ends ++ (length numbers + length row) ∷ []) (numbers ++ row)
    ≡ rows_from start ends numbers ++ row ∷ []
rows_more start [] numbers row laid = ap (λ r. r ∷ []) (last_row start numbers row laid)
rows_more start (end ∷ ends) numbers row laid =
    ap (λ r. r ∷ rows_from end (ends ++ (length numbers + length row) ∷ []) (numbers ++ row))
    (same_row start end numbers row laid.0 (laid_within end ends numbers laid.1))
    ∙ ap (λ rs. take (end - start) (drop start numbers) ∷ rs)
    (rows_more end ends numbers row laid.1)

-- ---- one of the lists

pub record Row (start : ℕ) (ends numbers : List ℕ) (i : ℕ) : Type 0 where
  pub first : ℕ
  pub last : ℕ
  pub starts : get_or (start ∷ ends) i 0 ≡ first
  pub stops : (d : ℕ) → get_or ends i d ≡ last
  pub below : first ≤ last
  pub within : last ≤ length numbers
  pub is : get_or (rows_from start ends numbers) i [] ≡ take (last - first) (drop first numbers)

row_at : (start : ℕ) (ends numbers : List ℕ) (i : ℕ) → AreLaidOut start ends numbers →
    i < length ends → Row start ends numbers i
row_at start [] numbers i laid few = absurd (omega (arith, few))
row_at start (end ∷ ends) numbers zero laid few =
    record {
      first = start;
      last = end;
      starts = refl;
      stops = λ d. refl;
      below = laid.0;
      within =
          laid_within end ends numbers laid.1;
      is = refl;
    }
row_at start (end ∷ ends) numbers (suc i) laid few =
    let row = row_at end ends numbers i laid.1 (omega (arith, few)) in
    record {
      first = row.first;
      last = row.last;
      starts = row.starts;
      stops = row.stops;
      below =
          row.below;
      within = row.within;
      is = row.is;
    }

-- the list at a place, from the end of the one before
module _ (ends numbers : List ℕ) (i first : ℕ) (laid : AreLaidOut 0 ends numbers)
    (few : i < length ends) (starts : get_or (0 ∷ ends) i 0 ≡ first) where
  row : Row 0 ends numbers i
  row = row_at 0 ends numbers i laid few

  same_first : row.first ≡ first
  same_first = sym row.starts ∙ starts

  pub is_below : first ≤ get_or ends i 0
  is_below = let e = row.stops 0 in omega (arith, row.below, same_first, e)

  pub is_within : get_or ends i 0 ≤ length numbers
  is_within = let e = row.stops 0 in omega (arith, row.within, e)

  pub is_between : IsBetween 0 ends numbers i first (get_or ends i 0)
  is_between = row.is ∙ ap (λ n. take (row.last - n) (drop n numbers)) same_first
      ∙ ap (λ n. take (n - first) (drop first numbers)) (sym (row.stops 0))

pub in_ends : (ends numbers : List ℕ) (rows : List (List ℕ)) (i : ℕ) → rows_from 0 ends numbers
    ≡ rows → i < length rows → i < length ends
in_ends ends numbers rows i seen few = let e : length rows ≡ length ends = ap length (sym seen)
    ∙ length_rows 0 ends numbers in omega (arith, e, few)
