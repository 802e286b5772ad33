-- Tests that are joined, as facts.
use Rattle.std.proofs.Common.{◌≡◌, ◌↔◌, ◌⊎◌, inl, inr, refl, ap, ◌∙◌, Bool, true, false, ◌&&◌}
use Rattle.std.proofs.Common.{◌||◌}
use Rattle.std.proofs.lemmas.Bool.{false≢true}

pub and_true : (a b : Bool) → ((a ≡ true) × (b ≡ true)) ↔ (a && b ≡ true)
and_true true b = (λ p. p.1, λ e. (refl, e))
and_true false b = (λ p. absurd (false≢true p.0), λ e. absurd (false≢true e))

pub or_true : (a b : Bool) → ((a ≡ true) ⊎ (b ≡ true)) ↔ (a || b ≡ true)
or_true true b = (λ s. refl, λ e. inl refl)
or_true false b =
    (λ s. elim s as (λ s. b ≡ true) [ inl x ↦ absurd (false≢true x) | inr y ↦ y ], λ e. inr e)

three_parts : (a b c : Bool) → a && b && c ≡ true → (a ≡ true) × (b ≡ true) × (c ≡ true)
three_parts true true c e = (refl, refl, e)
three_parts true false c e = absurd (false≢true e)
three_parts false b c e = absurd (false≢true e)

pub three_true : (a b c : Bool) → ((a ≡ true) × (b ≡ true) × (c ≡ true)) ↔ (a && b && c ≡ true)
three_true a b c =
    (λ p. ap (λ x. x && b && c) p.0 ∙ ap (λ x. true && x && c) p.1 ∙ p.2, three_parts a b c)

four_parts : (a b c d : Bool) → a && b && c && d ≡ true
    → (a ≡ true) × (b ≡ true) × (c ≡ true) × (d ≡ true)
four_parts true true true d e = (refl, refl, refl, e)
four_parts true true false d e = absurd (false≢true e)
four_parts true false c d e = absurd (false≢true e)
four_parts false b c d e = absurd (false≢true e)

pub four_true : (a b c d : Bool) → ((a ≡ true) × (b ≡ true) × (c ≡ true) × (d ≡ true))
    ↔ (a && b && c && d ≡ true)
four_true a b c d = (
  λ p. ap (λ x. x && b && c && d) p.0 ∙ ap (λ x. true && x && c && d) p.1
      ∙ ap (λ x. true && true && x && d) p.2 ∙ p.3,
  four_parts a b c d,
)
