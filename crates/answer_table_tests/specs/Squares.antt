-- A list of answers.
use Rattle.std.specs.Prelude.{ℕ, zero, suc, ◌+◌, ◌*◌, List, [], ◌∷◌, ◌++◌}

-- the answer of a word
abbrev pub square_of : ℕ → ℕ
square_of word = word * word + 1

-- the answers of the words below n
abbrev pub squares_of : ℕ → List ℕ
squares_of zero = []
squares_of (suc n) = squares_of n ++ square_of n ∷ []
