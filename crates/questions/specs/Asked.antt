-- What is asked, without where its words lie in memory.
use Rattle.std.specs.Prelude.{ℕ, List, map, Option, Some, None}
use Rattle.std.specs.declared.vec.Vec.{Vec}
use Rattle.std.specs.declared.alloc.Global.{Global}
use Rattle.option_words.specs.Seen.{texts}
use Rattle.questions.specs.declared.ask.Ask.{Ask as ReadAsk}
use Rattle.questions.specs.declared.ask.AskedValue.{AskedValue}
use Rattle.questions.specs.declared.kind.Kind.{Kind}
use Rattle.questions.specs.declared.question.Question.{Question as ReadQuestion}
use Rattle.questions.specs.Asking.{Question, Ask}

abbrev pub all_asked : List AskedValue → List (Kind × List ℕ)
all_asked = map (λ asked. (asked.kind, asked.value.now))

abbrev pub question_seen : ReadQuestion → Question
question_seen q = record { kind = q.kind; value = q.value.now; query = q.query }

abbrev pub maybe_question_seen : Option ReadQuestion → Option Question
maybe_question_seen None = None
maybe_question_seen (Some question) = Some (question_seen question)

abbrev pub questions_seen : List ReadQuestion → List Question
questions_seen = map question_seen

abbrev pub maybe_questions_seen : Option (Vec ReadQuestion Global) → Option (List Question)
maybe_questions_seen None = None
maybe_questions_seen (Some questions) = Some (questions_seen questions.items)

abbrev pub ask_seen : ReadAsk → Ask
ask_seen ask = record {
  classes = texts ask.classes.items;
  package_name = ask.package;
  super_name = ask.super_name;
  questions = questions_seen ask.questions.items;
}

abbrev pub maybe_ask_seen : Option ReadAsk → Option Ask
maybe_ask_seen None = None
maybe_ask_seen (Some ask) = Some (ask_seen ask)
