use Rattle.std.proofs.Common.{◌≡◌, drop}
use Rattle.std.specs.List.{list_all}
use Rattle.questions.specs.Asking.{is_option}
use Rattle.option_words.specs.Options.{Given}
use Rattle.option_words.specs.Seen.{all_given}
use Rattle.questions.proofs.ask.are_options.Given as goal

abbrev pub invariant-loop-one : goal.invariant-loop-one
invariant-loop-one l =
    list_all (λ (o : Given). is_option o.0) (all_given (drop l.one-index l.given))
    ≡ list_all (λ (o : Given). is_option o.0) (all_given l.given)
