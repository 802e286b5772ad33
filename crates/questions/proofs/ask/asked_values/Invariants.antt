use Rattle.std.proofs.Common.{◌≡◌, take}
use Rattle.std.specs.List.{filter_map}
use Rattle.questions.specs.Asked.{all_asked}
use Rattle.questions.specs.Asking.{asked_value}
use Rattle.option_words.specs.Seen.{all_given}
use Rattle.questions.proofs.ask.asked_values.Given as goal

abbrev pub invariant-loop-one : goal.invariant-loop-one
invariant-loop-one l =
    all_asked l.found.items ≡ filter_map asked_value (all_given (take l.one-index l.given))
