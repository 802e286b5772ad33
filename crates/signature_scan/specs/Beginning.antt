-- How much of a text begins a signature, as a function of the text (JVMS 4.7.9.1).
-- A text begins a signature where some bytes behind it
-- make it one. Where any do, so do some that are few:
-- two for each of its bytes and nine more.
use Rattle.std.specs.Prelude.{ℕ, zero, suc, ◌+◌, ◌*◌, ◌||◌, Bool, false, List, [], ◌∷◌, ◌++◌}
use Rattle.std.specs.Prelude.{length, take, if◌then◌else◌}
use Rattle.std.specs.Option.{is_some}
use Rattle.java_types.specs.declared.production.SigPlace.{SigPlace}
use Rattle.java_types.specs.Trees.{signature_of}

-- whether a number below n passes
unfoldable pub some_below : (ℕ → Bool) → ℕ → Bool
some_below passes zero = false
some_below passes (suc n) = passes n || some_below passes n

-- whether some bytes pass, at most n of them
unfoldable pub some_bytes : (List ℕ → Bool) → ℕ → Bool
some_bytes passes zero = passes []
some_bytes passes (suc n) =
    passes [] || some_below (λ b. some_bytes (λ bytes. passes (b ∷ bytes)) n) 256

-- whether some bytes behind it make it a signature
unfoldable pub begins : SigPlace → List ℕ → Bool
begins place front =
    some_bytes (λ more. is_some (signature_of place (front ++ more))) (2 * length front + 9)

-- of the fronts of at most n bytes that pass, the length of the longest
abbrev pub longest : (List ℕ → Bool) → List ℕ → ℕ → ℕ
longest passes text zero = 0
longest passes text (suc n) =
    if passes (take (suc n) text) then suc n else longest passes text n

-- the length of the longest front that begins a signature
abbrev pub beginning : SigPlace → List ℕ → ℕ
beginning place text = longest (begins place) text (length text)
