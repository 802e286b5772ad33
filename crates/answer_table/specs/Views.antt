-- What a seat knows, and how each kind of step changes it.
use Rattle.std.specs.Prelude.{ℕ, ◌+◌, ◌==◌, Bool, [], ◌∷◌, ◌++◌, if◌then◌else◌, Some, None}
use Rattle.std.specs.List.{list_any}
use Rattle.atomic_table.specs.Seated.{TableId}
use Rattle.answer_table.specs.declared.view.View.{View}

-- what contracts see of a seat: the table that it is of, and what it knows of that
pub record Seated : Type 0 where
  pub table : TableId
  pub view : View

-- whether the view knows the word to be filled
abbrev pub knows : View → ℕ → Bool
knows v word = list_any (λ k. k == word) v.known

-- nothing is known, and no load was made
abbrev pub newcomer : View
newcomer = record { known = []; loads = 0; last = None }

-- one load more, which is the last one. A word that was not empty is known
abbrev pub loaded : View → ℕ → Bool → View
loaded v word empty = record {
  known = if empty then v.known else word ∷ v.known;
  loads = v.loads + 1;
  last = Some (record { word = word; empty = empty });
}

-- the word is known
abbrev pub published : View → ℕ → View
published v word = record v { known = word ∷ v.known }

-- what both know, with the first one's note of loads
abbrev pub joined : View → View → View
joined v other = record v { known = v.known ++ other.known }
