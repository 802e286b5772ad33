-- What contracts see of a closed table.
use Rattle.std.specs.Prelude.{ℕ, ◌==◌, List, [], ◌∷◌, if◌then◌else◌, Option, Some, None}
use Rattle.answer_table.specs.Rule.{IsKept}
use Rattle.answer_table.specs.declared.view.View.{View}

-- what each word holds, and what the seat knew that closed the table
pub record Closing : Type 0 where
  pub answers : List (Option ℕ)
  pub closer : View

-- the answer that a word holds
abbrev pub answer_of : ℕ → Option ℕ
answer_of word = if word == 0 then None else Some word

-- the rule holds of the words and of what the closing seat knew
abbrev pub IsClosed : List ℕ → List ℕ → View → Type 0
IsClosed listed words closer = IsKept listed words (closer ∷ [])
