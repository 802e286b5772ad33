-- The calls of an object that fails at listed ones. Calls are
-- numbered from 0; the number stands still at the end of 32 bits.
use Rattle.std.specs.Prelude.{◌≡◌, ℕ, ◌+◌, ◌-◌, ◌^◌, min, List, Contains}
use Rattle.hdr_core.specs.declared.calls.Calls.{Calls}

-- how many calls were made
abbrev pub calls_made : Calls → ℕ
calls_made calls = calls.made

-- the numbers of the calls that fail
abbrev pub failing_calls : Calls → List ℕ
failing_calls calls = calls.failing.items

-- how many calls failed
abbrev pub calls_failed : Calls → ℕ
calls_failed calls = calls.failed

-- the call that is made next fails
abbrev pub FailsNext : Calls → Type 0
FailsNext calls = Contains (failing_calls calls) (calls_made calls)

-- one call was made
pub record CountsCall (before after : Calls) : Type 0 where
  pub failing : failing_calls after ≡ failing_calls before
  pub made : calls_made after ≡ min (calls_made before + 1) (2 ^ 32 - 1)
