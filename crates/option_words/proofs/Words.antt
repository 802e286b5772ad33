-- Words, gone over option by option.
use Rattle.std.proofs.Common.{◌≡◌, ℕ, true, cond, List, [], ◌∷◌, ◌++◌, sym, ap, ◌∙◌}
use Rattle.std.specs.Prelude.{Option, Some, None, option_map}
use Rattle.option_words.specs.Options.{Given, is_value, options}
use Rattle.option_words.specs.Seen.{first_option}
use Rattle.option_words.proofs.Each.{with_front, onto_front}

abbrev words_of : Option (Given × List (List ℕ)) → List (List ℕ)
words_of None = []
words_of (Some o) = o.0.0 ∷ (o.0.1 ∷ o.1)

split : (ws : List (List ℕ)) (o : Given) (more : List (List ℕ))
    → Some (o, more) ≡ first_option ws → ws ≡ o.0 ∷ (o.1 ∷ more)
split [] o more e = absurd cc
split (w ∷ []) o more e = absurd cc
split (w ∷ (v ∷ ws)) o more e = sym (ap words_of e)

-- one more option with its value
pub option_more : (words ws more : List (List ℕ)) (done : List Given) (o : Given)
    → options words ≡ with_front done (options ws) → Some (o, more) ≡ first_option ws
    → is_value o.1 ≡ true
    → options words ≡ with_front (done ++ o ∷ []) (options more)
option_more words ws more done o so_far first good =
    so_far
    ∙ ap (λ t. with_front done (options t)) (split ws o more first)
    ∙ ap (λ b. with_front done (cond b (option_map (λ r. (o.0, o.1) ∷ r) (options more)) None))
    good
    ∙ onto_front done (o.0, o.1) (options more)
