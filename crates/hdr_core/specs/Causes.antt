-- What a call to the outside world did to the count of faults, and to what is told there.
use Rattle.std.specs.Prelude.{◌≡◌, ◌≢◌, ℕ, ◌+◌, ◌-◌, ◌^◌, ◌≤◌, min, List, ◌++◌, Option, Some}
use Rattle.std.specs.Prelude.{None, Result, Err, IsErrOf}

-- A count of 64 bits rose by one. It stands still at its end.
abbrev pub Rose : ℕ → ℕ → Type 0
Rose before after = after ≡ min (before + 1) (2 ^ 64 - 1)

-- The object's count of faults rose by one where the call answered this refusal, so exactly one
-- of the calls that it made failed; after any other answer the count is what it was, so none did.
pub record CountsFault {S T E : Type 0} (faults : S → ℕ) (before after : S)
    (result : Result T E) (refusal : E) : Type 0 where
  pub failed : IsErrOf result refusal → Rose (faults before) (faults after)
  pub kept : result ≢ Err refusal → faults after ≡ faults before
  pub later : faults before ≤ faults after

-- what is told, with more bytes at its end, where it is told
abbrev pub grown : Option (List ℕ) → List ℕ → Option (List ℕ)
grown None more = None
grown (Some told) more = Some (told ++ more)

-- What is told has grown by a front of the text: by nothing, by all of it, or by what lies
-- between.
abbrev pub GrewByFront : Option (List ℕ) → Option (List ℕ) → List ℕ → Type 0
GrewByFront before after text =
    (front : List ℕ) × (rest : List ℕ) × (front ++ rest ≡ text) × (after ≡ grown before front)
