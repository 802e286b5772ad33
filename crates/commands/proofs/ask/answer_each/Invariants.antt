use Rattle.std.proofs.Common.{◌≡◌, map, take}
use Rattle.client_view.specs.Numbers.{views}
use Rattle.client_view.specs.Replies.{client_seen}
use Rattle.questions.specs.Asked.{question_seen}
use Rattle.commands.specs.Answers.{answer_to}
use Rattle.commands.proofs.ask.answer_each.Given as goal

abbrev pub invariant-loop-question : goal.invariant-loop-question
invariant-loop-question l = record {
  lines : l.lines.items
      ≡ map (λ q. answer_to (views l.fn.world) (client_seen l.client) (question_seen q))
      (take l.question-index l.questions);
  world : l.world ≡ l.fn.world;
}
