-- Lists of numbers, laid out one behind the other.
use Rattle.std.specs.Prelude.{◌≡◌, ℕ, ◌-◌, ◌≤◌, List, [], ◌∷◌, take, drop, length, slice_index_or}

-- the lists that begin at a place, from where each ends
abbrev pub rows_from : ℕ → List ℕ → List ℕ → List (List ℕ)
rows_from start [] numbers = []
rows_from start (end ∷ ends) numbers = take (end - start) (drop start numbers)
    ∷ rows_from end ends numbers

-- no list ends before it begins, and the last one ends with the numbers
abbrev pub AreLaidOut : ℕ → List ℕ → List ℕ → Type 0
AreLaidOut start [] numbers = start ≡ length numbers
AreLaidOut start (end ∷ ends) numbers = (start ≤ end) × AreLaidOut end ends numbers

-- a list lies between these two places
abbrev pub IsBetween : ℕ → List ℕ → List ℕ → ℕ → ℕ → ℕ → Type 0
IsBetween start ends numbers index first last =
    slice_index_or (rows_from start ends numbers) index []
    ≡ take (last - first) (drop first numbers)
