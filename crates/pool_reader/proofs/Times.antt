-- Loops that read as many items as a count says.
use Rattle.std.proofs.Common.{◌≡◌, ℕ, suc, ◌+◌, ◌-◌, ◌<◌, ◌≤◌, Bool, List, [], ◌∷◌, ◌++◌, Ok, Err}
use Rattle.std.proofs.Common.{refl}
use Rattle.std.proofs.Common.{sym, ap, ◌∙◌, append_assoc, append-nil, arith}
use Rattle.pool_reader.specs.declared.fault.ReadErr.{ReadErr}
use Rattle.pool_reader.specs.declared.fault.ReadErr.TheVariants as errors
use Rattle.pool_reader.specs.Reading.{◌>>=◌, Position, Read, Fails, times, pass_all}
use Rattle.pool_reader.specs.Pooled.{Row, is_wide_row, row_at, rows_at}

-- the items that were read before, and those that reading gives
abbrev pub with_front : {A : Type 0} → List A → Read (List A) → Read (List A)
with_front front read = read >>= λ x. Ok (front ++ x.0, x.1)

module _ {A : Type 0} where
  pub regroup : (front : List A) (item : A) (read : Read (List A))
      → with_front front (read >>= λ x. Ok (item ∷ x.0, x.1))
      ≡ with_front (front ++ item ∷ []) read
  regroup front item (Ok x) = ap (λ items. Ok (items, x.1)) (simp append_assoc)
  regroup front item (Err f) = refl

  pub goes_on : (read : Position → Read A) (front : List A) (count i : ℕ) (p : Position) (item : A)
      (after : Position) (total : Read (List A))
      → i < count
      → read p ≡ Ok (item, after)
      → with_front front (times read (count - i) p) ≡ total
      → with_front (front ++ item ∷ []) (times read (count - (i + 1)) after) ≡ total
  unfolding times
  goes_on read front count i p item after total lt h so_far =
      let k : count - i ≡ suc (count - (i + 1)) = omega arith in
      let one : with_front front (times read (count - i) p)
      ≡ with_front (front ++ item ∷ []) (times read (count - (i + 1)) after) =
      rw (k, h) (regroup front item (times read (count - (i + 1)) after)) in
      sym one ∙ so_far

  pub ends : (e : ReadErr) (read : Position → Read A) (front : List A) (count i : ℕ) (p : Position)
      (total : Read (List A))
      → i < count
      → Fails e (read p)
      → with_front front (times read (count - i) p) ≡ total
      → Fails e total
  unfolding times
  ends errors.Memory read front count i p total lt h so_far = tt
  ends (errors.Fault f) read front count i p total lt h so_far =
      let k : count - i ≡ suc (count - (i + 1)) = omega arith in
      let one : with_front front (times read (count - i) p) ≡ Err f = rw (k, h) refl in
      sym so_far ∙ one

  pub is_done : (read : Position → Read A) (front : List A) (count i : ℕ) (p : Position)
      (total : Read (List A))
      → count ≤ i
      → with_front front (times read (count - i) p) ≡ total
      → total ≡ Ok (front, p)
  unfolding times
  is_done read front count i p total le so_far =
      let k : count - i ≡ 0 = omega arith in
      let one : with_front front (times read (count - i) p) ≡ Ok (front, p) =
      rw k (ap (λ items. Ok (items, p)) (append-nil front)) in
      sym so_far ∙ one

-- a loop that passes as many items as a count says

pub passes : (read : Position → Read (Unit {0})) (count i : ℕ) (p after : Position)
    (total : Read (Unit {0}))
    → i < count
    → read p ≡ Ok (tt, after)
    → pass_all read (count - i) p ≡ total
    → pass_all read (count - (i + 1)) after ≡ total
unfolding pass_all
passes read count i p after total lt h so_far =
    let k : count - i ≡ suc (count - (i + 1)) = omega arith in
    let one : pass_all read (count - i) p ≡ pass_all read (count - (i + 1)) after =
    rw (k, h) refl in
    sym one ∙ so_far

pub passing_ends : (e : ReadErr) (read : Position → Read (Unit {0})) (count i : ℕ) (p : Position)
    (total : Read (Unit {0}))
    → i < count
    → Fails e (read p)
    → pass_all read (count - i) p ≡ total
    → Fails e total
unfolding pass_all
passing_ends errors.Memory read count i p total lt h so_far = tt
passing_ends (errors.Fault f) read count i p total lt h so_far =
    let k : count - i ≡ suc (count - (i + 1)) = omega arith in
    let one : pass_all read (count - i) p ≡ Err f = rw (k, h) refl in
    sym so_far ∙ one

pub all_passed : (read : Position → Read (Unit {0})) (count i : ℕ) (p : Position)
    (total : Read (Unit {0}))
    → count ≤ i
    → pass_all read (count - i) p ≡ total
    → total ≡ Ok (tt, p)
unfolding pass_all
all_passed read count i p total le so_far =
    let k : count - i ≡ 0 = omega arith in
    let one : pass_all read (count - i) p ≡ Ok (tt, p) = rw k refl in
    sym so_far ∙ one

-- a loop over the numbers of a pool

pub row_goes_on : (is_second : Bool) (front : List Row) (count i : ℕ) (p : Position) (row : Row)
    (after : Position) (total : Read (List Row))
    → i < count
    → row_at is_second (count - 1 - i) p ≡ Ok (row, after)
    → with_front front (rows_at is_second (count - i) p) ≡ total
    → with_front (front ++ row ∷ []) (rows_at (is_wide_row row) (count - (i + 1)) after) ≡ total
unfolding rows_at
row_goes_on is_second front count i p row after total lt h so_far =
    let k : count - i ≡ suc (count - (i + 1)) = omega arith in
    let left : count - 1 - i ≡ count - (i + 1) = omega arith in
    let read : row_at is_second (count - (i + 1)) p ≡ Ok (row, after) =
    ap (λ n. row_at is_second n p) (sym left) ∙ h in
    let more = rows_at (is_wide_row row) (count - (i + 1)) after in
    let one : with_front front (rows_at is_second (count - i) p)
    ≡ with_front (front ++ row ∷ []) more =
    rw (k, read) (regroup front row more) in
    sym one ∙ so_far

pub row_ends : (e : ReadErr) (is_second : Bool) (front : List Row) (count i : ℕ) (p : Position)
    (total : Read (List Row))
    → i < count
    → Fails e (row_at is_second (count - 1 - i) p)
    → with_front front (rows_at is_second (count - i) p) ≡ total
    → Fails e total
unfolding rows_at
row_ends errors.Memory is_second front count i p total lt h so_far = tt
row_ends (errors.Fault f) is_second front count i p total lt h so_far =
    let k : count - i ≡ suc (count - (i + 1)) = omega arith in
    let left : count - 1 - i ≡ count - (i + 1) = omega arith in
    let read : row_at is_second (count - (i + 1)) p ≡ Err f =
    ap (λ n. row_at is_second n p) (sym left) ∙ h in
    let one : with_front front (rows_at is_second (count - i) p) ≡ Err f = rw (k, read) refl in
    sym so_far ∙ one

pub rows_done : (is_second : Bool) (front : List Row) (count i : ℕ) (p : Position)
    (total : Read (List Row))
    → count ≤ i
    → with_front front (rows_at is_second (count - i) p) ≡ total
    → total ≡ Ok (front, p)
unfolding rows_at
rows_done is_second front count i p total le so_far =
    let k : count - i ≡ 0 = omega arith in
    let one : with_front front (rows_at is_second (count - i) p) ≡ Ok (front, p) =
    rw k (ap (λ items. Ok (items, p)) (append-nil front)) in
    sym so_far ∙ one
