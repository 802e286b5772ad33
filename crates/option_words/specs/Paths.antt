-- The paths that values of options give.
use Rattle.std.specs.Prelude.{ℕ, ◌==◌, List, [], ◌∷◌, Option, option_and_then, if◌then◌else◌}
use Rattle.option_words.specs.Lists.{nonempty, each}
use Rattle.option_words.specs.Options.{Given, values}

-- '/', which stands between the parts of a path
abbrev pub slash : ℕ
slash = 47

-- a byte before a path that was trimmed: a '/' with nothing behind it goes
abbrev pub before_trimmed : ℕ → List ℕ → List ℕ
before_trimmed b [] = if b == slash then [] else b ∷ []
before_trimmed b (c ∷ cs) = b ∷ (c ∷ cs)

-- a path without the '/' at its end
abbrev pub trimmed : List ℕ → List ℕ
trimmed [] = []
trimmed (b ∷ bs) = before_trimmed b (trimmed bs)

-- the path that a value gives: none where nothing stands before its '/'
abbrev pub path_of : List ℕ → Option (List ℕ)
path_of value = nonempty (trimmed value)

-- the paths that values give: none where one of the values gives none
abbrev pub paths_of : List (List ℕ) → Option (List (List ℕ))
paths_of values = each path_of values

-- the paths that an option gives, one at least
abbrev pub paths_by : List ℕ → List Given → Option (List (List ℕ))
paths_by option given = option_and_then nonempty (paths_of (values option given))
