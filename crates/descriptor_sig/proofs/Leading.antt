-- Readings put together: what is known after a part was read, or after a reading failed.
use Rattle.std.proofs.Common.{◌≡◌, refl, sym, ap, ◌∙◌, subst, ℕ, List, [], ◌∷◌, ◌++◌, Result, Ok}
use Rattle.std.proofs.Common.{Err, append_assoc, append-nil, false}
use Rattle.descriptor_sig.specs.declared.error.SigErr.{SigErr}
use Rattle.std.proofs.lemmas.Bool.{false≢true, eq-eqb}
use Rattle.java_types.specs.Fronts.{begins_with}
use Rattle.descriptor_sig.specs.Standing.{Builds, Marked}
use Rattle.descriptor_sig.proofs.Bytes.{rest_of_cons}

-- whatever stands at these bytes is rebuilt from what stands at the rest
pub record Leads {A B : Type 0} (rebuilt : A → B) (From : B → List ℕ → List ℕ → Type 0)
    (To : A → List ℕ → List ℕ → Type 0) (bytes rest : List ℕ) : Type 0 where
  pub leads : (value : B) (more : List ℕ) → From value bytes more
      → (left : A) × (rebuilt left ≡ value) × To left rest more

-- what stands at the bytes is joined from what stands
-- first at the rest, and what stands behind that
pub record Splits {A B C : Type 0} (joined : A → B → C) (From : C → List ℕ → List ℕ → Type 0)
    (First : A → List ℕ → List ℕ → Type 0) (Second : B → List ℕ → List ℕ → Type 0)
    (bytes rest : List ℕ) : Type 0 where
  pub splits : (value : C) (more : List ℕ) → From value bytes more
      → (a : A) × (b : B) × (middle : List ℕ) × (joined a b ≡ value) × First a rest middle
      × Second b middle more

-- the error that a ? passes on
abbrev pub IsPassed : {T : Type 0} → Result T SigErr → SigErr → Type 0
IsPassed r e = (y : SigErr) × (r ≡ Err y) × (y ≡ e)

passed : {T : Type 0} {From : T → List ℕ → List ℕ → Type 0} {bytes end : List ℕ}
    (r : Result T SigErr) (e : SigErr) → IsPassed r e → Builds From bytes (Err e) end
    → Builds From bytes r end
passed {T} {From} {bytes} {end} r e p b =
    subst (λ x. Builds From bytes x end) (sym (p.1 ∙ ap Err p.2)) b

-- ---- one reading within another

pub leads_ok : {A B : Type 0} {f : A → B} {From : B → List ℕ → List ℕ → Type 0}
    {To : A → List ℕ → List ℕ → Type 0} {bytes rest left : List ℕ} {x : A} {y : B}
    → Leads f From To bytes rest → Builds To rest (Ok x) left → f x ≡ y
    → Builds From bytes (Ok y) left
leads_ok {A} {B} {f} {From} {To} {bytes} {rest} {left} {x} {y} h b is =
    record {
      gives = λ value more s. let l = h.leads value more s in let g = b.gives l.0 more l.2 in
          (sym is ∙ (ap f g.0 ∙ l.1), g.1);
    }

pub leads_err : {A B : Type 0} {f : A → B} {From : B → List ℕ → List ℕ → Type 0}
    {To : A → List ℕ → List ℕ → Type 0} {bytes rest left : List ℕ} {e : SigErr}
    → Leads f From To bytes rest → Builds To rest (Err e) left → (r : Result B SigErr)
    → IsPassed r e → Builds From bytes r left
leads_err {A} {B} {f} {From} {To} {bytes} {rest} {left} {e} h b r p =
    passed r e p (record {
      gives = λ value more s. let l = h.leads value more s in
          b.gives l.0 more l.2;
    })

pub leads_same : {A : Type 0} {From To : A → List ℕ → List ℕ → Type 0} {bytes rest left : List ℕ}
    (r : Result A SigErr) → Leads (λ x. x) From To bytes rest → Builds To rest r left
    → Builds From bytes r left
leads_same (Ok x) h b = leads_ok h b refl
leads_same (Err e) h b = leads_err h b (Err e) (e, refl, refl)

-- behind a mark of its own
pub mark_leads : {A : Type 0} {Stands : A → List ℕ → List ℕ → Type 0} (mark : ℕ)
    (bytes rest : List ℕ) → bytes ≡ mark ∷ rest
    → Leads (λ x. x) (Marked mark Stands) Stands bytes rest
mark_leads {A} {Stands} mark bytes rest front =
    record {
      leads = λ value more s. (
        value,
        refl,
        subst (λ b. Stands value b more) (rest_of_cons (sym s.front ∙ front))
            s.stands,
      );
    }

-- the mark is not there
pub mark_fails : {A B : Type 0} {f : A → B} {From : B → List ℕ → List ℕ → Type 0}
    {Stands : A → List ℕ → List ℕ → Type 0} {bytes rest : List ℕ} (mark : ℕ) (e : SigErr)
    (left : List ℕ) → Leads f From (Marked mark Stands) bytes rest → begins_with mark rest ≡ false
    → Builds From bytes (Err e) left
mark_fails {A} {B} {f} {From} {Stands} {bytes} {rest} mark e left h differs =
    record {
      gives = λ value more s. let l = h.leads value more s in let m = l.2 in
          absurd (false≢true (sym differs
          ∙ (ap (begins_with mark) m.front ∙ eq-eqb mark mark refl)));
    }

-- ---- one reading before another

pub splits_ok : {A B C : Type 0} {joined : A → B → C} {From : C → List ℕ → List ℕ → Type 0}
    {First : A → List ℕ → List ℕ → Type 0} {Second : B → List ℕ → List ℕ → Type 0}
    {bytes rest left : List ℕ} {x : A} → Splits joined From First Second bytes rest
    → Builds First rest (Ok x) left → Leads (joined x) From Second bytes left
splits_ok {A} {B} {C} {joined} {From} {First} {Second} {bytes} {rest} {left} {x} h b = record {
  leads = λ value more s.
      let p = h.splits value more s in
      let g = b.gives p.0 p.2 p.4 in (
        p.1,
        ap (λ a. joined a p.1) g.0
            ∙ p.3,
        subst (λ middle. Second p.1 middle more) (sym g.1) p.5,
      );
}

pub splits_err : {A B C : Type 0} {joined : A → B → C} {From : C → List ℕ → List ℕ → Type 0}
    {First : A → List ℕ → List ℕ → Type 0} {Second : B → List ℕ → List ℕ → Type 0}
    {bytes rest left : List ℕ} {e : SigErr} → Splits joined From First Second bytes rest
    → Builds First rest (Err e) left → (r : Result C SigErr) → IsPassed r e
    → Builds From bytes r left
splits_err {A} {B} {C} {joined} {From} {First} {Second} {bytes} {rest} {left} {e} h b r p =
    passed r e p (record {
      gives = λ value more s. let q = h.splits value more s in
          b.gives q.0 q.2 q.4;
    })

pub leads_then : {A B C : Type 0} {f : B → C} {g : A → B} {From : C → List ℕ → List ℕ → Type 0}
    {Mid : B → List ℕ → List ℕ → Type 0} {To : A → List ℕ → List ℕ → Type 0}
    {bytes middle rest : List ℕ} → Leads f From Mid bytes middle → Leads g Mid To middle rest
    → Leads (λ a. f (g a)) From To bytes rest
leads_then {A} {B} {C} {f} {g} {From} {Mid} {To} {bytes} {middle} {rest} h k = record {
  leads = λ value more s.
      let l = h.leads value more s in
      let m = k.leads l.0 more l.2 in
      (m.0, ap f m.1 ∙ l.1, m.2);
}

-- ---- in a loop

abbrev pub behind : {T : Type 0} → List T → List T → List T
behind done later = done ++ later

abbrev pub cons : {T : Type 0} → T → List T → List T
cons item items = item ∷ items

-- one more item of a list is done
pub one_more : {T : Type 0} {From To Next : List T → List ℕ → List ℕ → Type 0}
    {Stands : T → List ℕ → List ℕ → Type 0} {bytes middle rest left : List ℕ} {x : T}
    (done : List T) → Leads (behind done) From To bytes middle
    → Splits cons To Stands Next middle rest → Builds Stands rest (Ok x) left →
    (more_done : List T)
    → more_done ≡ done ++ (x ∷ []) → Leads (behind more_done) From Next bytes left
one_more {T} {From} {To} {Next} {Stands} {bytes} {middle} {rest} {left} {x} done h k b more_done
    is = record {
      leads = λ value more s.
          let l = h.leads value more s in
          let m = (splits_ok k b).leads l.0 more l.2 in (
            m.0,
            ap (λ items. items ++ m.0) is
                ∙ (append_assoc done (x ∷ []) m.0 ∙ (ap (λ later. done ++ later) m.1 ∙ l.1)),
            m.2,
          );
    }

-- one more item could not be read
pub one_fails : {T : Type 0} {From To Next : List T → List ℕ → List ℕ → Type 0}
    {Stands : T → List ℕ → List ℕ → Type 0} {bytes middle rest left : List ℕ} {e : SigErr}
    (done : List T) → Leads (behind done) From To bytes middle
    → Splits cons To Stands Next middle rest → Builds Stands rest (Err e) left
    → (r : Result (List T) SigErr) → IsPassed r e → Builds From bytes r left
one_fails {T} {From} {To} {Next} {Stands} {bytes} {middle} {rest} {left} {e} done h k b r p =
    leads_err h (splits_err k b (Err e) (e, refl, refl)) r p

-- no item is left
pub all_done : {T : Type 0} {From To : List T → List ℕ → List ℕ → Type 0}
    {bytes rest left : List ℕ}
    {done : List T} → Leads (behind done) From To bytes rest → Builds To rest (Ok []) left
    → (all : List T) → all ≡ done → Builds From bytes (Ok all) left
all_done {T} {From} {To} {bytes} {rest} {left} {done} h b all is =
    leads_ok h b (append-nil done ∙ sym is)
