-- Words as options: each option is one word, and its value is the next word.
use Rattle.std.specs.Prelude.{ℕ, ◌==◌, Bool, false, not, List, [], ◌∷◌, map, filter}
use Rattle.std.specs.Prelude.{Option, Some, None, option_map, if◌then◌else◌}
use Rattle.java_names.specs.Names.{is_text}

-- '-', with which an option begins
abbrev pub minus : ℕ
minus = 45

-- what may stand behind an option: not empty, and not beginning as an option does
abbrev pub is_value : List ℕ → Bool
is_value [] = false
is_value (b ∷ bs) = not (b == minus)

-- an option and its value
abbrev pub Given : Type 0
Given = List ℕ × List ℕ

-- the options that words are: none where one of them has no value
abbrev pub options : List (List ℕ) → Option (List Given)
options [] = Some []
options (option ∷ []) = None
options (option ∷ (value ∷ words)) =
    if is_value value then option_map (λ more. (option, value) ∷ more) (options words) else None

-- the values of an option, in their order
abbrev pub values : List ℕ → List Given → List (List ℕ)
values option given = map (λ o. o.1) (filter (λ o. is_text o.0 option) given)
