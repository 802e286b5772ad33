-- What is spelled by texts, and the fronts of texts that can still become one.
use Rattle.std.specs.Prelude.{ℕ, ◌≤◌, List, ◌++◌, length, take}
use Rattle.java_types.specs.declared.types.JSig.{JSig}

-- some text that goes on from this one is a spelling
abbrev pub Begins : (JSig → List ℕ → Type 0) → List ℕ → Type 0
Begins Spells front = (sig : JSig) × (more : List ℕ) × Spells sig (front ++ more)

-- of the fronts of the text that begin a spelling, the longest has this length
pub record IsLongestBeginning (Spells : JSig → List ℕ → Type 0) (text : List ℕ)
    (n : ℕ) : Type 0 where
  pub fits : n ≤ length text
  pub begins : Begins Spells (take n text)
  pub longest : (m : ℕ) → m ≤ length text → Begins Spells (take m text) → m ≤ n

-- the text spells nothing, and the longest of its fronts that begins a spelling has this length
pub record IsBadText (Spells : JSig → List ℕ → Type 0) (text : List ℕ) (at : ℕ) : Type 0 where
  pub unspelled : (sig : JSig) → Spells sig text → ⊥
  pub longest : IsLongestBeginning Spells text at
