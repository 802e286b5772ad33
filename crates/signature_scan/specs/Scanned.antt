-- What looking at a whole text tells.
use Rattle.std.specs.Prelude.{◌≡◌, ℕ, ◌<◌, ◌≤◌, nat_lt, List, Option, Some, None, if◌then◌else◌}
use Rattle.java_types.specs.declared.types.JSig.{JSig}
use Rattle.java_types.specs.declared.production.SigPlace.{SigPlace}
use Rattle.java_types.specs.Signature.{SignatureSpells}
use Rattle.java_types.specs.Spelling.{IsBadText}
use Rattle.java_types.specs.Nesting.{nesting, nesting_limit, opens_at}
use Rattle.java_types.specs.Trees.{signature_of}
use Rattle.signature_scan.specs.Beginning.{beginning}
use Rattle.signature_scan.specs.declared.verdict.Verdict.{Verdict}
use Rattle.signature_scan.specs.declared.verdict.Verdict.TheVariants as verdict

-- a signature, nested no deeper than may be
pub record IsFine (place : SigPlace) (text : List ℕ) (sig : JSig) : Type 0 where
  pub spelled : SignatureSpells place sig text
  pub nested : nesting sig ≤ nesting_limit

-- a signature nested too deep, from this place on
pub record IsTooDeep (place : SigPlace) (text : List ℕ) (at : ℕ) (sig : JSig) : Type 0 where
  pub spelled : SignatureSpells place sig text
  pub nested : nesting_limit < nesting sig
  pub opens : at ≡ opens_at nesting_limit sig

-- what is told of a text
abbrev pub Scanned : SigPlace → List ℕ → Verdict → Type 0
Scanned place text verdict.Fine = (sig : JSig) × IsFine place text sig
Scanned place text (verdict.BadText at) = IsBadText (SignatureSpells place) text at
Scanned place text (verdict.TooDeep at) = (sig : JSig) × IsTooDeep place text at sig

-- ---- the verdict as a function of the text

-- the verdict on a text with this signature or none, of which so much begins one
abbrev pub verdict_on : Option JSig → ℕ → Verdict
verdict_on None at = verdict.BadText at
verdict_on (Some sig) at = if nat_lt nesting_limit (nesting sig)
    then verdict.TooDeep (opens_at nesting_limit sig)
    else verdict.Fine

unfoldable pub verdict_of : SigPlace → List ℕ → Verdict
verdict_of place text = verdict_on (signature_of place text) (beginning place text)
