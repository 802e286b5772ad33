-- The rule after a change of one word and one view.
use Rattle.std.proofs.Common.{◌≡◌, ◌≢◌, ◌⊎◌, ℕ, ◌<◌, ◌==◌, ◌||◌, Bool, true, false, List}
use Rattle.std.proofs.Common.{length, refl, sym, ◌∙◌, subst, inl, inr, ⊎_elim}
use Rattle.std.proofs.Common.{length-set, get_or-set_same, get_or-set_other}
use Rattle.std.specs.Prelude.{slice_index, slice_set}
use mathlib.Core.Logic.{dite}
use native.Mathlib.Decide.{ℕ_discrete}
use Rattle.std.proofs.lemmas.Bool.{eqb-true}
use Rattle.std.proofs.lemmas.List.Folds.{list_any-append}
use Rattle.answer_table.specs.declared.view.View.{View}
use Rattle.answer_table.specs.Views.{knows, published, joined}
use Rattle.answer_table.specs.Rule.{IsKept, IsEmptyOr, KnowsFilled}
use Rattle.answer_table.proofs.Items.{each_set}

-- the word is there, and holds its answer
abbrev pub IsFull : List ℕ → List ℕ → ℕ → Type 0
IsFull listed words i = (i < length words) × (slice_index words i ≡ slice_index listed i)

-- what holds of the new word, and of each other one as it was, holds behind the change
word_after : (words : List ℕ) (at new i : ℕ) (P : ℕ → ℕ → Type 0) → at < length words
    → (i ≡ at → P at new) → (i ≢ at → P i (slice_index words i))
    → P i (slice_index (slice_set words at new) i)
word_after words at new i P near here there =
    let after : List ℕ = slice_set words at new in
    let hit : slice_index after at ≡ new = get_or-set_same words at new 0 near in
    dite (ℕ_discrete i at)
    (λ e. subst (λ k. P k (slice_index after k)) (sym e) (subst (P at) (sym hit) (here e)))
    (λ apart. subst (P i) (sym (get_or-set_other words at i new 0 apart)) (there apart))

-- the word stays empty, or gets its answer
abbrev pub Becomes : List ℕ → List ℕ → ℕ → ℕ → Type 0
Becomes listed words at new =
    ((slice_index words at ≡ 0) × (new ≡ 0)) ⊎ (new ≡ slice_index listed at)

module _ (listed words : List ℕ) (views : List View) (kept : IsKept listed words views) where
  module _ (at new : ℕ) (near : at < length words) (becomes : Becomes listed words at new) where
    empty_or : IsEmptyOr (slice_index listed at) new
    empty_or = ⊎_elim (λ t. inl t.1) (λ t. inr t) becomes

    stays_full : IsFull listed words at → new ≡ slice_index listed at
    stays_full full =
        let answer = kept.answers at 0 (subst (λ n. at < n) kept.count near) in
        ⊎_elim (λ t. absurd (answer (sym full.1 ∙ t.0))) (λ t. t) becomes

    -- what was known to be filled stays so
    pub filled_after : (v : View) → KnowsFilled listed words v
        → KnowsFilled listed (slice_set words at new) v
    filled_after v was i known =
        let old : IsFull listed words i = was i known in
        let holds = word_after words at new i (λ k word. word ≡ slice_index listed k) near
        (λ e. stays_full (subst (IsFull listed words) e old))
        (λ apart. old.1) in
        (subst (λ n. i < n) (sym (length-set words at new)) old.0, holds)

    pub kept_after : (seat : ℕ) (w : View) → KnowsFilled listed (slice_set words at new) w
        → IsKept listed (slice_set words at new) (slice_set views seat w)
    kept_after seat w fills =
        let after : List ℕ = slice_set words at new in
        let count = length-set words at new in
        let allowed : ℕ → ℕ → Type 0 = λ k word. IsEmptyOr (slice_index listed k) word in
        record {
          count = count ∙ kept.count;
          answers = kept.answers;
          each = λ i h. word_after words at new i allowed near
              (λ e. empty_or)
              (λ apart. kept.each i (subst (λ n. i < n) count h));
          filled = each_set (KnowsFilled listed after) views seat w
              (λ j v e. filled_after v (kept.filled j v e))
              fills;
        }

module _ (listed words : List ℕ) where
  -- a view may learn a word that holds its answer
  pub learnt : (v : View) (at : ℕ) → IsFull listed words at
      → KnowsFilled listed words v → KnowsFilled listed words (published v at)
  learnt v at full was i known = by (at == i) refl known
    where
      by : (b : Bool) → (at == i) ≡ b → (b || knows v i) ≡ true → IsFull listed words i
      by true same h = subst (IsFull listed words) (eqb-true at i same) full
      by false apart h = was i h

  -- two views may be put together
  pub put_together : (v w : View) → KnowsFilled listed words v → KnowsFilled listed words w
      → KnowsFilled listed words (joined v w)
  put_together v w of_v of_w i known =
      by (knows v i) refl (sym (list_any-append (λ k. k == i) v.known w.known) ∙ known)
    where
      by : (b : Bool) → knows v i ≡ b → (b || knows w i) ≡ true → IsFull listed words i
      by true is h = of_v i is
      by false is h = of_w i h
