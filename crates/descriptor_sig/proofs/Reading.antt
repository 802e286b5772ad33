-- The signature that was built is that of the text.
use Rattle.std.proofs.Common.{◌≡◌, sym, ap, ◌∙◌, subst, ℕ, List, Some, Result, Ok, Err, IfOk}
use Rattle.java_types.specs.declared.types.JSig.{JSig}
use Rattle.java_types.specs.declared.production.SigPlace.{SigPlace}
use Rattle.java_types.specs.Signature.{SignatureSpells}
use Rattle.java_types.specs.Trees.{signature_of}
use Rattle.java_types.proofs.OneTree.{one_signature, signature_found}
use Rattle.signature_scan.specs.Scanned.{IsFine, IsTooDeep}
use Rattle.descriptor_sig.specs.declared.error.SigErr.{SigErr}
use Rattle.descriptor_sig.specs.Built.{IsBuilt}

pub only_one : (place : SigPlace) (bytes text : List ℕ) (result : Result JSig SigErr) →
    bytes ≡ text
    → (sig : JSig) × IsFine place bytes sig → IsBuilt place bytes result
    → IfOk result (λ read. (other : JSig) → SignatureSpells place other text → other ≡ read)
only_one place bytes text (Ok read) same fine built = λ other s.
    one_signature place bytes other fine.0 (subst (SignatureSpells place other) (sym same) s)
    fine.1.spelled ∙ sym (built.is fine.0 fine.1.spelled fine.1.nested)
only_one place bytes text (Err e) same fine built = tt

pub by_text : (place : SigPlace) (bytes text : List ℕ) (result : Result JSig SigErr) → bytes ≡ text
    → (sig : JSig) × IsFine place bytes sig → IsBuilt place bytes result
    → IfOk result (λ read. signature_of place text ≡ Some read)
by_text place bytes text (Ok read) same fine built =
    ap (signature_of place) (sym same) ∙ signature_found place fine.0 bytes fine.1.spelled
    ∙ ap Some (sym (built.is fine.0 fine.1.spelled fine.1.nested))
by_text place bytes text (Err e) same fine built = tt

pub deep_at : (place : SigPlace) (bytes text : List ℕ) (a b : ℕ) → bytes ≡ text
    → (sig : JSig) × IsTooDeep place bytes a sig → a ≡ b → (sig : JSig)
    × IsTooDeep place text b sig
deep_at place bytes text a b same h e = (
  h.0,
  subst (λ t. IsTooDeep place t b h.0) same
      (subst (λ n. IsTooDeep place bytes n h.0) e h.1),
)
