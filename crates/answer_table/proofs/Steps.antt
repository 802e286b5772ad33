-- Each kind of step keeps the rule.
use Rattle.std.proofs.Common.{◌≡◌, ◌≢◌, ℕ, ◌<◌, ◌==◌, Bool, true, false, true≢false, List}
use Rattle.std.proofs.Common.{length, refl, sym, ◌∙◌, subst, inl, inr, ⊎_elim, arith}
use Rattle.std.proofs.Common.{length-set, get_or-set_same}
use Rattle.std.specs.Prelude.{slice_index, slice_set}
use mathlib.Core.Option.{some, none}
use lib.ListN.{get_elem?}
use prog.Atomic.{either}
use Rattle.std.proofs.lemmas.Bool.{eq-eqb}
use Rattle.atomic_table.specs.Table.{State, keeps, step, Allows, Splits, Joins}
use Rattle.atomic_table.proofs.Lists.{at_set, exchanged}
use Rattle.answer_table.specs.declared.view.View.{View}
use Rattle.answer_table.specs.Views.{newcomer, loaded, published, joined}
use Rattle.answer_table.specs.Rule.{IsKept, IsEmptyOr, KnowsFilled, Loads, Publishes}
use Rattle.answer_table.proofs.Items.{each_set, each_snoc}
use Rattle.answer_table.proofs.Kept.{IsFull, Becomes, filled_after, kept_after}
use Rattle.answer_table.proofs.Kept.{learnt, put_together}

-- a word that isn't empty holds its answer
pub holds_answer : (answer word : ℕ) → IsEmptyOr answer word → word ≢ 0 → word ≡ answer
holds_answer answer word is full =
    ⊎_elim (λ (t : word ≡ 0). absurd (full t)) (λ (t : word ≡ answer). t) is

module _ (listed : List ℕ) where
  -- the rule, of a table as plain data
  abbrev pub Rule : State ℕ View → Type 0
  Rule s = IsKept listed s.words s.views

  -- a load lets its view know the word that isn't empty
  load_learnt : (words : List ℕ) (v : View) (at : ℕ) → at < length words
      → IsEmptyOr (slice_index listed at) (slice_index words at)
      → KnowsFilled listed words v
      → KnowsFilled listed words (loaded v at (slice_index words at == 0))
  load_learnt words v at near is was = by (slice_index words at == 0) refl
    where
      by : (b : Bool) → (slice_index words at == 0) ≡ b → KnowsFilled listed words (loaded v at b)
      by true empty = was
      by false full =
          let apart : slice_index words at ≢ 0 = λ e. true≢false (sym (eq-eqb _ _ e) ∙ full) in
          let holds = holds_answer (slice_index listed at) (slice_index words at) is apart in
          learnt listed words v at (near, holds) was

  module _ (slots seat at : ℕ) (v : View) (held : List (ℕ × ℕ)) (within : at < length listed) where
    pub loads : Allows Rule slots seat (v, held) at
        (λ n. n)
        (Loads listed (step slots at 0 0 none) (v, held))
    loads s kept homes here small =
        let word : ℕ = slice_index s.words at in
        let near : at < length s.words = omega (arith, kept.count) in
        let is = kept.each at near in
        let becomes : Becomes listed s.words at word =
        ⊎_elim (λ (t : word ≡ 0). inl (t, t)) (λ (t : word ≡ slice_index listed at). inr t) is in
        let was = kept.filled seat v here in
        let w : View = loaded v at (word == 0) in
        let learns = load_learnt s.words v at near is was in
        let fills = filled_after listed s.words s.views kept at word near becomes w learns in (
          w,
          keeps,
          tt,
          kept_after listed s.words s.views kept at word near becomes seat w fills,
          (refl, refl, is, kept.answers at 0 within, λ known. (was at known).1),
        )

    pub publishes : (answer : ℕ) → answer ≡ slice_index listed at
        → Allows Rule slots seat (v, held) at
        (λ n. either (n == 0) answer n)
        (Publishes (step slots at 0 answer none) (v, held))
    publishes answer listed_one s kept homes here small =
        let word : ℕ = slice_index s.words at in
        let near : at < length s.words = omega (arith, kept.count) in
        let new : ℕ = either (word == 0) answer word in
        let full : new ≡ slice_index listed at =
        exchanged word 0 answer (λ n. n ≡ slice_index listed at)
        (λ empty. listed_one)
        (holds_answer (slice_index listed at) word (kept.each at near)) in
        let after : List ℕ = slice_set s.words at new in
        let is_full : IsFull listed after at = (
          subst (λ n. at < n) (sym (length-set s.words at new)) near,
          get_or-set_same s.words at new 0 near ∙ full,
        ) in
        let was = kept.filled seat v here in
        let fills = filled_after listed s.words s.views kept at new near (inr full) v was in
        let w : View = published v at in
        let learns = learnt listed after v at is_full fills in (
          w,
          keeps,
          tt,
          kept_after listed s.words s.views kept at new near (inr full) seat w learns,
          (refl, refl),
        )

  pub splits : (seat : ℕ) (v : View) → Splits Rule seat v v v
  splits seat v s kept here = record {
    count = kept.count;
    answers = kept.answers;
    each = kept.each;
    filled =
        let fills = kept.filled seat v here in
        let old = each_set (KnowsFilled listed s.words) s.views seat v kept.filled fills in
        each_snoc (KnowsFilled listed s.words) (slice_set s.views seat v) v old fills;
  }

  pub joins : (seat other : ℕ) (v w : View) → Joins Rule seat v other w (joined v w) newcomer
  joins seat other v w s kept here apart there =
      let both : View = joined v w in
      let theirs : get_elem? s.views other ≡ some w = ⊎_elim
      (λ (t : (other ≡ seat) × (both ≡ w)). absurd (apart t.0))
      (λ (t : (other ≢ seat) × (get_elem? s.views other ≡ some w)). t.1)
      (at_set s.views seat other both w there) in
      let of_v = kept.filled seat v here in
      let of_w = kept.filled other w theirs in
      let fills = put_together listed s.words v w of_v of_w in
      let one = each_set (KnowsFilled listed s.words) s.views seat both kept.filled fills in
      let views : List View = slice_set s.views seat both in
      record {
        count = kept.count;
        answers = kept.answers;
        each = kept.each;
        filled = each_set (KnowsFilled listed s.words) views other newcomer one
            (λ i known. absurd (true≢false (sym known)));
      }
