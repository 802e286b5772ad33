-- What reading a signature gives, its text known or not.
use Rattle.std.specs.Prelude.{◌≡◌, ℕ, ◌≤◌, List, Result, Ok, Err}
use Rattle.java_types.specs.declared.types.JSig.{JSig}
use Rattle.java_types.specs.declared.production.SigPlace.{SigPlace}
use Rattle.java_types.specs.Signature.{SignatureSpells}
use Rattle.java_types.specs.Nesting.{nesting, nesting_limit}
use Rattle.descriptor_sig.specs.declared.error.SigErr.{SigErr}
use Rattle.descriptor_sig.specs.declared.error.SigErr.TheVariants.{Memory}

-- this signature, unless memory runs out
abbrev pub IsSig : JSig → Result JSig SigErr → Type 0
IsSig sig (Ok read) = read ≡ sig
IsSig sig (Err e) = e ≡ Memory

-- each signature that the text spells, nested no deeper than the limit
pub record IsBuilt (place : SigPlace) (text : List ℕ) (result : Result JSig SigErr) : Type 0 where
  pub is : (sig : JSig) → SignatureSpells place sig text → nesting sig ≤ nesting_limit
      → IsSig sig result
