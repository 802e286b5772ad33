use Rattle.std.proofs.Common.{◌≡◌, drop}
use Rattle.option_words.specs.Lists.{each}
use Rattle.option_words.specs.Paths.{path_of}
use Rattle.option_words.specs.Seen.{texts}
use Rattle.option_words.proofs.Each.{with_front}
use Rattle.option_words.proofs.paths.path_values.Given as goal

-- the paths found so far, with those of what is left
abbrev pub invariant-loop-value : goal.invariant-loop-value
invariant-loop-value l =
    each path_of (texts l.values)
    ≡ with_front (texts l.paths.items) (each path_of (texts (drop l.value-index l.values)))
