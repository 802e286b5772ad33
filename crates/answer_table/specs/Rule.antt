-- What holds of the words and of all views between any two steps, and what a step tells its seat.
use Rattle.std.specs.Prelude.{◌≡◌, ◌⊎◌, ◌≢◌, ℕ, ◌<◌, ◌==◌, true, List, length, slice_index, All}
use mathlib.Core.Option.{some}
use lib.ListN.{get_elem?}
use Rattle.atomic_table.specs.Table.{Me, Step}
use Rattle.answer_table.specs.Views.{knows, loaded, published}
use Rattle.answer_table.specs.declared.view.View.{View}

-- the number of an empty word is no answer
abbrev pub AreAnswers : List ℕ → Type 0
AreAnswers listed = All (λ answer. answer ≢ 0) listed

-- the word is empty, or holds its answer
abbrev pub IsEmptyOr : ℕ → ℕ → Type 0
IsEmptyOr answer word = (word ≡ 0) ⊎ (word ≡ answer)

-- each word that the view knows holds its answer
abbrev pub KnowsFilled : List ℕ → List ℕ → View → Type 0
KnowsFilled listed words v =
    (i : ℕ) → knows v i ≡ true → (i < length words) × (slice_index words i ≡ slice_index listed i)

-- there are as many words as answers, none of which is 0; each word is empty or holds its answer;
-- each word that a view knows is filled
pub record IsKept (listed words : List ℕ) (views : List View) : Type 0 where
  pub count : length words ≡ length listed
  pub answers : AreAnswers listed
  pub each : (i : ℕ) → i < length words → IsEmptyOr (slice_index listed i) (slice_index words i)
  pub filled : (seat : ℕ) (v : View) → get_elem? views seat ≡ some v → KnowsFilled listed words v

-- a load finds the word empty or its answer, this where the seat knew the word, and is noted
abbrev pub Loads : List ℕ → Step ℕ → Me ℕ View → ℕ → Me ℕ View → Type 0
Loads listed s me found new =
    (new.1 ≡ me.1)
    × (new.0 ≡ loaded me.0 s.word (found == 0))
    × IsEmptyOr (slice_index listed s.word) found
    × (slice_index listed s.word ≢ 0)
    × (knows me.0 s.word ≡ true → found ≡ slice_index listed s.word)

-- behind a publish the word is known
abbrev pub Publishes : Step ℕ → Me ℕ View → ℕ → Me ℕ View → Type 0
Publishes s me found new = (new.1 ≡ me.1) × (new.0 ≡ published me.0 s.word)
