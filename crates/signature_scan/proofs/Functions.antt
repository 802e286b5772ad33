-- The verdict on a text is a function of the text.
use Rattle.std.proofs.Common.{◌≡◌, refl, sym, ap, ◌∙◌, subst, ℕ, zero, suc, ◌<◌, List, [], ◌∷◌}
use Rattle.std.proofs.Common.{Option, Some, None, if◌then◌else◌, arith}
use Rattle.std.specs.List.{AllByRecursion}
use Rattle.std.proofs.lemmas.Bool.{lt-ltb, le-ltb}
use Rattle.java_types.specs.declared.types.JSig.{JSig}
use Rattle.java_types.specs.declared.production.SigPlace.{SigPlace}
use Rattle.java_types.specs.Signature.{SignatureSpells}
use Rattle.java_types.specs.Spelling.{IsLongestBeginning}
use Rattle.java_types.specs.Nesting.{nesting, nesting_limit, opens_at}
use Rattle.java_types.specs.Trees.{signature_of}
use Rattle.java_types.proofs.OneTree.{signature_found, signature_spelled}
use Rattle.signature_scan.specs.declared.state.State.TheVariants as state
use Rattle.signature_scan.specs.declared.verdict.Verdict.{Verdict}
use Rattle.signature_scan.specs.declared.verdict.Verdict.TheVariants as verdict
use Rattle.signature_scan.specs.Beginning.{beginning}
use Rattle.signature_scan.specs.Scanned.{Scanned, verdict_on, verdict_of}
use Rattle.signature_scan.proofs.Running.{run}
use Rattle.signature_scan.proofs.Verdicts.{AreBytes, scanned}
use Rattle.signature_scan.proofs.Beginnings.{beginning_right}

-- of a text that is refused so much begins a signature
abbrev EndsAt : Verdict → ℕ → Type 0
EndsAt verdict.Fine at = Unit {0}
EndsAt (verdict.TooDeep k) at = Unit {0}
EndsAt (verdict.BadText k) at = k ≡ at

-- two longest beginnings are one
same_length : (place : SigPlace) (text : List ℕ) (a b : ℕ)
    → IsLongestBeginning (SignatureSpells place) text a
    → IsLongestBeginning (SignatureSpells place) text b → a ≡ b
same_length place text a b s t =
    let p = s.longest b t.fits t.begins in
    let q = t.longest a s.fits s.begins in omega arith

ends_at : (place : SigPlace) (text : List ℕ) (v : Verdict) → AreBytes text
    → Scanned place text v → EndsAt v (beginning place text)
ends_at place text verdict.Fine bytes s = tt
ends_at place text (verdict.TooDeep k) bytes s = tt
ends_at place text (verdict.BadText k) bytes s =
    same_length place text k (beginning place text) s.longest (beginning_right place text bytes)

-- a verdict that is right, and told of the right place
module _ (place : SigPlace) (text : List ℕ) where
  none : ((sig : JSig) → SignatureSpells place sig text → ⊥) → signature_of place text ≡ None
  none unspelled = by (signature_of place text) refl
    where
      by : (o : Option JSig) → signature_of place text ≡ o → o ≡ None
      by None e = refl
      by (Some sig) e = absurd (unspelled sig (signature_spelled place sig text e))

  pub is_verdict : (v : Verdict) → Scanned place text v → EndsAt v (beginning place text)
      → v ≡ verdict_of place text
  unfolding verdict_of
  is_verdict verdict.Fine s e =
      sym (ap (λ (o : Option JSig). verdict_on o (beginning place text))
      (signature_found place s.0 text s.1.spelled)
      ∙ ap (λ t. if t then verdict.TooDeep (opens_at nesting_limit s.0)
      else verdict.Fine) (le-ltb nesting_limit (nesting s.0) s.1.nested))
  is_verdict (verdict.TooDeep at) s e =
      ap verdict.TooDeep s.1.opens
      ∙ sym (ap (λ (o : Option JSig). verdict_on o (beginning place text))
      (signature_found place s.0 text s.1.spelled)
      ∙ ap (λ t. if t then verdict.TooDeep (opens_at nesting_limit s.0)
      else verdict.Fine) (lt-ltb nesting_limit (nesting s.0) s.1.nested))
  is_verdict (verdict.BadText at) s e =
      ap verdict.BadText e
      ∙ sym (ap (λ (o : Option JSig). verdict_on o (beginning place text)) (none s.unspelled))

  pub told : (v : Verdict) → AreBytes text → v ≡ run (state.Start place) None 0 text
      → v ≡ verdict_of place text
  told v bytes e =
      let right = scanned place text bytes in
      let seen = run (state.Start place) None 0 text in
      e ∙ is_verdict seen right (ends_at place text seen bytes right)

  pub verdict_right : AreBytes text → Scanned place text (verdict_of place text)
  verdict_right bytes
      = subst (Scanned place text) (told
      (run (state.Start place) None 0 text) bytes refl) (scanned place text bytes)

  -- two right verdicts are one
  pub one_verdict : (v w : Verdict) → Scanned place text v → Scanned place text w → v ≡ w
  one_verdict (verdict.BadText a) (verdict.BadText b) s t =
      ap verdict.BadText (same_length place text a b s.longest t.longest)
  one_verdict (verdict.BadText a) verdict.Fine s t = absurd (s.unspelled t.0 t.1.spelled)
  one_verdict (verdict.BadText a) (verdict.TooDeep b) s t = absurd (s.unspelled t.0 t.1.spelled)
  one_verdict verdict.Fine (verdict.BadText b) s t = absurd (t.unspelled s.0 s.1.spelled)
  one_verdict (verdict.TooDeep a) (verdict.BadText b) s t = absurd (t.unspelled s.0 s.1.spelled)
  one_verdict verdict.Fine verdict.Fine s t = refl
  one_verdict verdict.Fine (verdict.TooDeep b) s t = is_verdict verdict.Fine s tt
      ∙ sym (is_verdict (verdict.TooDeep b) t tt)
  one_verdict (verdict.TooDeep a) verdict.Fine s t = is_verdict (verdict.TooDeep a) s tt
      ∙ sym (is_verdict verdict.Fine t tt)
  one_verdict (verdict.TooDeep a) (verdict.TooDeep b) s t = is_verdict (verdict.TooDeep a) s tt
      ∙ sym (is_verdict (verdict.TooDeep b) t tt)

-- what the scan tells
pub tells : (place : SigPlace) (text : List ℕ) (v : Verdict) → AreBytes text
    → v ≡ run (state.Start place) None 0 text → Scanned place text v × (v ≡ verdict_of place text)
tells place text v bytes e
    = (subst (Scanned place text) (sym e) (scanned place text bytes), told place text v bytes e)

pub all_bytes : (text : List ℕ) → AllByRecursion (λ b. b < 256) text → AreBytes text
all_bytes [] all i = omega arith
all_bytes (b ∷ text) all zero = all.0
all_bytes (b ∷ text) all (suc i) = all_bytes text all.1 i
