use Rattle.std.proofs.Common.{◌≡◌, drop}
use Rattle.questions.specs.Asked.{all_asked, questions_seen}
use Rattle.questions.specs.Asking.{each_question}
use Rattle.option_words.proofs.Each.{with_front}
use Rattle.questions.proofs.ask.questions_asked.Given as goal

abbrev pub invariant-loop-one : goal.invariant-loop-one
invariant-loop-one l =
    each_question (all_asked l.all)
    ≡ with_front (questions_seen l.questions.items)
    (each_question (all_asked (drop l.one-index l.all)))
