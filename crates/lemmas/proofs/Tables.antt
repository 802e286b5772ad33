-- Functions that are compared by computing their values below a number.
use Rattle.std.proofs.Common.{◌≡◌, ℕ, zero, suc, List, [], ◌∷◌, map, ◌<◌, arith, inl, inr}
use Rattle.std.proofs.lemmas.Bool.{cases_lt}

-- the numbers below k, the greatest first
abbrev pub below : ℕ → List ℕ
below zero = []
below (suc k) = k ∷ below k

-- two functions with the same values below k are one there
pub same_below : {A : Type 0} (f g : ℕ → A) (k n : ℕ) → map f (below k) ≡ map g (below k) → n < k
    → f n ≡ g n
same_below f g zero n e h = absurd (omega arith)
same_below f g (suc k) n e h = elim (cases_lt n k) [
  | inl l ↦ same_below f g k n (cc) l
  | inr l ↦ (let q : n ≡ k = omega arith in rw q (cc))
]
