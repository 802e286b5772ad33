-- An ordered map of numbers by name, with one more.
use Rattle.std.proofs.Common.{◌≡◌, ◌∙◌, refl, sym, ap, subst, ℕ, Bool, true, false, List}
use Rattle.std.proofs.Common.{Option, Some, None}
use Rattle.std.specs.Prelude.{cond}
use Rattle.std.specs.BTreeMap.{BTreeMap, get, Updates}
use Rattle.std.specs.Cmp.Lexicographic.{slice_cmp, same_text}
use Rattle.std.specs.Ordering.{nat_cmp}
use Rattle.std.proofs.lemmas.Map.Text.{is_eq-slice_cmp}
use Rattle.java_names.specs.Names.{is_text}
use Rattle.client_view.specs.Numbers.{noted}

noted_of_new : (o : Option ℕ) (same : Bool) (n : ℕ) → (same ≡ true → o ≡ None) →
    cond same (Some n) o ≡ noted o same n
noted_of_new (Some first) true n new = let wrong = new refl in absurd cc
noted_of_new (Some first) false n new = refl
noted_of_new None true n new = refl
noted_of_new None false n new = refl

pub noted_after : (m m' : BTreeMap (List ℕ) ℕ) (name : List ℕ) (n : ℕ) →
    Updates (slice_cmp nat_cmp) m m' name (Some n) → get (slice_cmp nat_cmp) m name ≡ None →
    (other : List ℕ) → get (slice_cmp nat_cmp) m' other
    ≡ noted (get (slice_cmp nat_cmp) m other) (is_text name other) n
noted_after m m' name n updates new other =
    updates.0 other
    ∙ ap (λ t. cond t (Some n) (get (slice_cmp nat_cmp) m other)) (is_eq-slice_cmp name other)
    ∙ noted_of_new (get (slice_cmp nat_cmp) m other) (is_text name other) n
    (λ same. subst (λ k. get (slice_cmp nat_cmp) m k ≡ None) (same_text name other (sym same)) new)
