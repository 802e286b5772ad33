-- What a refusal holds.
use Rattle.std.proofs.Common.{◌≡◌, ap, sym, ◌∙◌}
use Rattle.std.specs.Prelude.{Result, Ok, Err}

-- the refusal, or another one where there is none
refusal_or : {T E : Type 0} → Result T E → E → E
refusal_or (Ok value) other = other
refusal_or (Err refusal) other = refusal

pub err_same : {T E : Type 0} (x y : E) (r : Result T E) → r ≡ Err x → r ≡ Err y → x ≡ y
unfolding refusal_or
err_same x y r a b = sym (ap (λ s. refusal_or s x) a) ∙ ap (λ s. refusal_or s x) b
