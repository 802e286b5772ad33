use Rattle.std.proofs.Common.{◌≡◌, take}
use Rattle.option_words.specs.Options.{values}
use Rattle.option_words.specs.Seen.{all_given, texts}
use Rattle.option_words.proofs.options.values_of.Given as goal

abbrev pub invariant-loop-one : goal.invariant-loop-one
invariant-loop-one l = texts l.found.items ≡ values l.option (all_given (take l.one-index l.given))
