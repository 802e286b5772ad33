-- The translation of Unicode escapes, step by step: `out` is what has been translated.
use Rattle.std.proofs.Common.{◌≡◌, ℕ, zero, suc, ◌+◌, ◌≤◌, Bool, true, false, ◌&&◌, ◌==◌, List}
use Rattle.std.proofs.Common.{[], ◌∷◌, ◌++◌, Option, None, Some, length, map, drop, refl, sym}
use Rattle.std.proofs.Common.{◌∙◌, ap, append_assoc, append-nil, arith, length-drop}
use Rattle.std.proofs.Common.{if◌then◌else◌}
use Rattle.std.proofs.lemmas.List.{drop_all, drop-drop}
use Rattle.java_text.specs.declared.character.TheConstants.{BACKSLASH}
use Rattle.java_text.specs.declared.escape.Input.{Input}
use Rattle.java_text.specs.Source.{itself, is_eligible, eligible_input, first_input, inputs_up_to}
use Rattle.java_text.specs.Source.{inputs_behind, unicode_escape_value, unicode_escape_length}
use Rattle.java_text.specs.Source.{marker_length, four_digits}

eligible_within : (value : Option ℕ) (units : List ℕ)
    → length (eligible_input value units).1 ≤ length units
eligible_within None units = omega arith
eligible_within (Some v) units = omega (arith, length-drop (unicode_escape_length units) units)

chosen_within : (b : Bool) (c : ℕ) (units : List ℕ)
    → length (if b then eligible_input (unicode_escape_value units) units
    else (itself c, units)).1 ≤ length units
chosen_within true c units = eligible_within (unicode_escape_value units) units
chosen_within false c units = omega arith

-- a step takes a unit or more
pub rest_within : (recent : List Input) (c : ℕ) (units : List ℕ)
    → length (first_input recent c units).1 ≤ length units
rest_within recent c units = chosen_within (c == BACKSLASH && is_eligible recent) c units

-- more steps than units give the same
pub enough : (n m : ℕ) (recent : List Input) (units : List ℕ) → length units ≤ n → length units ≤ m
    → inputs_up_to n recent units ≡ inputs_up_to m recent units
unfolding inputs_up_to
enough zero zero recent units h k = refl
enough zero (suc m) recent [] h k = refl
enough (suc n) zero recent [] h k = refl
enough (suc n) (suc m) recent [] h k = refl
enough zero (suc m) recent (c ∷ units) h k = absurd (omega (arith, h))
enough (suc n) zero recent (c ∷ units) h k = absurd (omega (arith, k))
enough (suc n) (suc m) recent (c ∷ units) h k =
    let w = rest_within recent c units in
    ap (λ inputs. (first_input recent c units).0 ∷ inputs)
    (enough n m _ (first_input recent c units).1 (omega arith) (omega arith))

pub one_step : (recent : List Input) (c : ℕ) (units : List ℕ)
    → inputs_behind recent (c ∷ units)
    ≡ (first_input recent c units).0 ∷ inputs_behind ((first_input recent c units).0 ∷ recent)
    (first_input recent c units).1
unfolding inputs_up_to
one_step recent c units =
    ap (λ inputs. (first_input recent c units).0 ∷ inputs)
    (enough (length units) (length (first_input recent c units).1) _ _ (rest_within recent c units)
    (omega arith))

abbrev pub units_of : List Input → List ℕ
units_of inputs = map (λ (input : Input). input.unit) inputs

-- a step, as the code takes it
pub pushed : (recent : List Input) (c : ℕ) (units rest out more : List ℕ) (input : Input)
    → first_input recent c units ≡ (input, rest) → more ≡ out ++ input.unit ∷ []
    → more ++ units_of (inputs_behind (input ∷ recent) rest)
    ≡ out ++ units_of (inputs_behind recent (c ∷ units))
pushed recent c units rest out more input e m =
    rw (m, one_step recent c units, e)
    (append_assoc out (input.unit ∷ []) (units_of (inputs_behind (input ∷ recent) rest)))

not_zero : (n : ℕ) → (n ≡ 0 → ⊥) → (n == 0) ≡ false
not_zero n h = grind (arith, h)

-- no marker, and no escape
pub no_escape : (units : List ℕ) → marker_length units ≡ 0 → unicode_escape_value units ≡ None
unfolding unicode_escape_value
no_escape units e = rw e refl

-- a marker, and then digits or none
pub behind_marker : (n : ℕ) (units : List ℕ) → n ≡ marker_length units → (n ≡ 0 → ⊥)
    → four_digits (drop n units) ≡ unicode_escape_value units
unfolding unicode_escape_value
behind_marker n units e h =
    rw (← e) (sym (ap (λ b. if b then None else four_digits (drop n units)) (not_zero n h)))

pub further : (at taken : ℕ) (raw : List ℕ)
    → drop (at + (1 + taken)) raw ≡ drop taken (drop (at + 1) raw)
further at taken raw = let same : (at + 1) + taken ≡ at + (1 + taken) = omega arith in
    sym (drop-drop taken (at + 1) raw ∙ ap (λ n. drop n raw) same)

-- nothing is left
pub ended : (at : ℕ) (recent : List Input) (raw out : List ℕ) → length raw ≤ at
    → out ++ units_of (inputs_behind recent (drop at raw)) ≡ units_of (inputs_behind [] raw)
    → out ≡ units_of (inputs_behind [] raw)
unfolding inputs_up_to
ended at recent raw out h e = sym (append-nil out) ∙ (rw (drop_all at raw h) at e)
