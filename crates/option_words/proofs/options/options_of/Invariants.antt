use Rattle.std.proofs.Common.{◌≡◌, length, map}
use Rattle.std.specs.Prelude.{string_bytes}
use Rattle.option_words.specs.Options.{options}
use Rattle.option_words.specs.Seen.{all_given}
use Rattle.option_words.proofs.Each.{with_front}
use Rattle.option_words.proofs.options.options_of.Given as goal

abbrev pub invariant-loop-option : goal.invariant-loop-option
invariant-loop-option l =
    options (map string_bytes l.fn.words)
    ≡ with_front (all_given l.given.items) (options (map string_bytes l.rest))

abbrev pub decreases-loop-option : goal.decreases-loop-option
decreases-loop-option l = length l.rest
