use Rattle.std.proofs.Common.{◌≡◌, ℕ, List, map, ap, ◌∙◌}
use Rattle.class_desc.specs.declared.class.ClassDesc.{ClassDesc}
use Rattle.client_view.specs.Numbers.{views}
use Rattle.questions.specs.Asked.{ask_seen, question_seen}
use Rattle.questions.specs.declared.question.Question.{Question}
use Rattle.commands.specs.Answers.{client_of, answer_to}
use Rattle.commands.proofs.Asked.{map_through}
use Rattle.commands.proofs.ask.answer_over.Goals as goal

pub returns : goal.returns
returns c =
    let asked = ask_seen c.args.asked in
    let given = c.args.classes.items in
    let over : List ClassDesc → List Question → List (List ℕ) =
    λ list. map (λ q. answer_to (views list) (client_of asked) (question_seen q)) in
    c.in_ok-lines.ensures
    ∙ ap (λ list. over list c.deref.result.now) c.in_ok-world.ensures
    ∙ ap (over given) c.deref.ensures.value
    ∙ map_through (answer_to (views given) (client_of asked)) question_seen
    c.args.asked.questions.items
