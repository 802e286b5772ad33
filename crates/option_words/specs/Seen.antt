-- Words and options without where they lie in memory.
use Rattle.std.specs.Prelude.{ℕ, List, [], ◌∷◌, map, string_bytes, Option, Some, None}
use Rattle.std.specs.declared.string.String.{String}
use Rattle.std.specs.declared.vec.Vec.{Vec}
use Rattle.std.specs.declared.alloc.Global.{Global}
use Rattle.std.specs.Borrow.{Bor}
use Rattle.option_words.specs.declared.options.Given.{Given as ReadGiven}
use Rattle.option_words.specs.Options.{Given}

-- ---- texts

abbrev pub text_seen : Option (Bor (List ℕ)) → Option (List ℕ)
text_seen None = None
text_seen (Some text) = Some text.now

-- the two parts of a text
abbrev pub parts_seen : Option (Bor (List ℕ) × Bor (List ℕ)) → Option (List ℕ × List ℕ)
parts_seen None = None
parts_seen (Some parts) = Some (parts.0.now, parts.1.now)

abbrev pub texts : List (Bor (List ℕ)) → List (List ℕ)
texts = map (λ text. text.now)

abbrev pub maybe_texts_seen : Option (Vec (Bor (List ℕ)) Global) → Option (List (List ℕ))
maybe_texts_seen None = None
maybe_texts_seen (Some found) = Some (texts found.items)

-- ---- options

abbrev pub given_seen : ReadGiven → Given
given_seen given = (given.option.now, given.value.now)

abbrev pub all_given : List ReadGiven → List Given
all_given = map given_seen

abbrev pub maybe_given_seen : Option (Vec ReadGiven Global) → Option (List Given)
maybe_given_seen None = None
maybe_given_seen (Some given) = Some (all_given given.items)

-- the first option and the words behind it
abbrev pub first_option : List (List ℕ) → Option (Given × List (List ℕ))
first_option [] = None
first_option (option ∷ []) = None
first_option (option ∷ (value ∷ words)) = Some ((option, value), words)

abbrev pub option_seen : Option (ReadGiven × Bor (List (String Global)))
    → Option (Given × List (List ℕ))
option_seen None = None
option_seen (Some o) = Some (given_seen o.0, map string_bytes o.1.now)
