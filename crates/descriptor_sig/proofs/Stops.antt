-- What a reader tells where a part was not there.
use Rattle.std.proofs.Common.{◌≡◌, ap, sym, subst, ◌∙◌, ℕ, ◌<◌, ◌≤◌, ◌-◌, List, ◌∷◌, length}
use Rattle.std.proofs.Common.{get_or, Result, Ok, Err, arith}
use Rattle.java_types.specs.declared.types.JType.{JType}
use Rattle.java_types.specs.declared.types.JSig.{JSig}
use Rattle.java_types.specs.Descriptor.{DescriptorSpells}
use Rattle.descriptor_sig.specs.declared.stop.Stop.{Stop}
use Rattle.descriptor_sig.specs.declared.stop.Stop.TheVariants.{Stuck, Memory}
use Rattle.descriptor_sig.specs.Parts.{Parsed, ParsedWhole, DimensionsRead, IsStuck, IsStuckWhole}
use Rattle.descriptor_sig.specs.Parts.{BeginsOtherwise, FieldSpells, ReturnSpells, MethodSpells}
use Rattle.java_types.specs.Spelling.{IsBadText}
use Rattle.descriptor_sig.proofs.ClassNames.{tail_of, opened}
use Rattle.descriptor_sig.proofs.Fields.{stuck_dimensions}
use Rattle.descriptor_sig.proofs.Descriptors.{read_returned, stuck_returned, read_of_method}
use Rattle.descriptor_sig.proofs.Descriptors.{stuck_of_method, whole_stuck, bad_text}

-- ---- the first byte, as it is read of a slice

pub opened_as : (b : ℕ) (text : List ℕ) → 1 ≤ length text → get_or text 0 0 ≡ b
    → text ≡ b ∷ tail_of text
opened_as b text h e = opened text h ∙ ap (λ (k : ℕ). k ∷ tail_of text) e

pub otherwise_at_end : (b : ℕ) (text : List ℕ) → length text < 1 → BeginsOtherwise b text
otherwise_at_end b text h later is = absurd (omega (arith, ap length is))

pub otherwise_at : (b : ℕ) (text : List ℕ) → (get_or text 0 0 ≡ b → ⊥) → BeginsOtherwise b text
otherwise_at b text h later is = h (ap (λ (t : List ℕ). get_or t 0 0) is)

-- ---- the exit of a ?

abbrev pub Exit : {B : Type 0} → Result B Stop → Stop → Type 0
Exit q e = (y : Stop) × (q ≡ Err y) × (y ≡ e)

exits : {B : Type 0} (q : Result B Stop) (e : Stop) → Exit q e → q ≡ Err e
exits q e p = p.1 ∙ ap (λ (y : Stop). Err y) p.2

pub stopped : {A B : Type 0} (P : A → List ℕ → Type 0) (Q : B → List ℕ → Type 0) (e : Stop)
    (q : Result B Stop) (inner left text : List ℕ) → Exit q e → Parsed P (Err e) inner left
    → (IsStuck P inner left → IsStuck Q text left) → Parsed Q q text left
stopped P Q Stuck q inner left text p h f =
    subst (λ x. Parsed Q x text left) (sym (exits q Stuck p)) (f h)
stopped P Q Memory q inner left text p h f =
    subst (λ x. Parsed Q x text left) (sym (exits q Memory p)) tt

pub stopped_dimensions : (e : Stop) (q : Result JType Stop) (left text : List ℕ) → Exit q e
    → DimensionsRead (Err e) text left → Parsed FieldSpells q text left
stopped_dimensions Stuck q left text p h =
    subst (λ x. Parsed FieldSpells x text left) (sym (exits q Stuck p))
    (stuck_dimensions text left h)
stopped_dimensions Memory q left text p h = absurd h

pub stopped_whole : (e : Stop) (q : Result JSig Stop) (left text : List ℕ) → Exit q e
    → Parsed DescriptorSpells (Err e) text left → ParsedWhole q text left
stopped_whole Stuck q left text p h =
    subst (λ x. ParsedWhole x text left) (sym (exits q Stuck p)) (whole_stuck text left h)
stopped_whole Memory q left text p h =
    subst (λ x. ParsedWhole x text left) (sym (exits q Memory p)) tt

-- ---- the answer of a part, handed on

pub returned : (r : Result JType Stop) (text left : List ℕ) → BeginsOtherwise 86 text
    → Parsed FieldSpells r text left → Parsed ReturnSpells r text left
returned (Ok t) text left n h = read_returned t text left h
returned (Err Stuck) text left n h = stuck_returned text left n h
returned (Err Memory) text left n h = tt

pub of_method : (r : Result JSig Stop) (text inner left : List ℕ) → text ≡ 40 ∷ inner
    → Parsed MethodSpells r inner left → Parsed DescriptorSpells r text left
of_method (Ok sig) text inner left e h = read_of_method sig text inner left e h
of_method (Err Stuck) text inner left e h = stuck_of_method text inner left e h
of_method (Err Memory) text inner left e h = tt

pub answered : (text bytes inner left : List ℕ) (count : ℕ) → inner ≡ bytes → bytes ≡ text
    → count ≡ length left → IsStuckWhole inner left
    → IsBadText DescriptorSpells text (length bytes - count)
answered text bytes inner left count e f n s =
    let same : length bytes ≡ length text = ap length f in
    bad_text text left (length bytes - count)
    (subst (λ (t : List ℕ). IsStuckWhole t left) (e ∙ f) s) (omega arith)
