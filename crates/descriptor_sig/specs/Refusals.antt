-- What is told of a text that has no tree.
use Rattle.std.specs.Prelude.{ℕ, Result, Ok, Err}
use Rattle.java_types.specs.declared.types.JSig.{JSig}
use Rattle.descriptor_sig.specs.declared.error.SigErr.{SigErr}
use Rattle.descriptor_sig.specs.declared.error.SigErr.TheVariants.{BadText, TooDeep, Memory}

-- a fact of the place, where the answer is BadText
abbrev pub IfBadText : Result JSig SigErr → (ℕ → Type 0) → Type 0
IfBadText (Ok sig) Q = Unit {0}
IfBadText (Err (BadText at)) Q = Q at
IfBadText (Err (TooDeep at)) Q = Unit {0}
IfBadText (Err Memory) Q = Unit {0}

-- a fact of the place, where the answer is TooDeep
abbrev pub IfTooDeep : Result JSig SigErr → (ℕ → Type 0) → Type 0
IfTooDeep (Ok sig) Q = Unit {0}
IfTooDeep (Err (BadText at)) Q = Unit {0}
IfTooDeep (Err (TooDeep at)) Q = Q at
IfTooDeep (Err Memory) Q = Unit {0}
