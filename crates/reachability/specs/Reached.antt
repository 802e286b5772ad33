-- Which numbers of a graph are reached. A graph is a list of lists: each number leads to those of
-- its list.
use Rattle.std.specs.Prelude.{◌≡◌, ℕ, Bool, true, List, [], Contains, slice_index_or}

-- the numbers that a number leads to
abbrev pub targets : List (List ℕ) → ℕ → List ℕ
targets graph n = slice_index_or graph n []

-- a set of numbers that has those at which one begins, and with each number those that it leads to
pub record IsClosed (graph : List (List ℕ)) (begin : List ℕ) (has : ℕ → Bool) : Type 0 where
  pub begins : (n : ℕ) → Contains begin n → has n ≡ true
  pub leads : (n m : ℕ) → has n ≡ true → Contains (targets graph n) m → has m ≡ true

-- the number is in each such set, so in the least one
abbrev pub IsReached : List (List ℕ) → List ℕ → ℕ → Type 0
IsReached graph begin n = (has : ℕ → Bool) → IsClosed graph begin has → has n ≡ true
