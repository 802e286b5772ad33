-- What a search finds.
use Rattle.std.specs.Prelude.{◌≡◌, ◌⊎◌, ◌<◌, ◌+◌, ℕ, Bool, true, false, List, [], ◌∷◌, ◌++◌}
use Rattle.std.specs.Prelude.{length, replicate, Contains, slice_index_or}
use Rattle.reachability.specs.declared.search.Search.{Search}

-- the number is marked
abbrev pub IsMarked : Search → ℕ → Type 0
IsMarked search n = slice_index_or search.marks.items n false ≡ true

-- how many numbers are not marked
abbrev pub unmarked : List Bool → ℕ
unmarked [] = 0
unmarked (true ∷ marks) = unmarked marks
unmarked (false ∷ marks) = 1 + unmarked marks

-- nothing is found yet
pub record IsAnew (search : Search) (numbers : ℕ) : Type 0 where
  pub marks : search.marks.items ≡ replicate numbers false
  pub found : search.found.items ≡ []

-- these numbers are marked too, where they are the graph's, and none besides
pub record Grew (old new : Search) (numbers : List ℕ) : Type 0 where
  pub more : List ℕ
  pub found : new.found.items ≡ old.found.items ++ more
  pub level : length new.marks.items ≡ length old.marks.items
  pub kept : (n : ℕ) → IsMarked old n → IsMarked new n
  pub fresh : (n : ℕ) → IsMarked new n → IsMarked old n ⊎ (Contains more n × Contains numbers n)
  pub listed : (n : ℕ) → Contains more n → IsMarked new n
  pub each : (n : ℕ) → Contains numbers n → n < length old.marks.items → IsMarked new n
  pub spent : unmarked new.marks.items + length more ≡ unmarked old.marks.items
