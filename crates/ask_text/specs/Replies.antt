-- What replies tell, where numbers are places in a world's list.
use Rattle.std.specs.Prelude.{◌≡◌}
use Rattle.class_views.specs.World.{World}
use Rattle.class_views.specs.Query.{Finding, Answer, NotFound, NotAccessible, WrongKind, Cycle}
use Rattle.client_view.specs.declared.reply.Reply.{Reply}
use Rattle.client_view.specs.declared.reply.Reply.TheVariants as reply
use Rattle.client_view.specs.Replies.{Says, Tells, TellsTwo}

-- the reply stands for an answer
abbrev pub IsSaid : {T : Type 0} → World → (T → Finding → Type 0) → Reply T → Type 0
IsSaid world IsFound said = (answer : Answer) × Says world IsFound said answer

-- the answer of a reply that finds nothing
abbrev pub SaysRefused : {T : Type 0} → World → Reply T → Answer → Type 0
SaysRefused world (reply.Found found) answer = ⊥
SaysRefused world reply.NotFound answer = answer ≡ NotFound
SaysRefused world (reply.NotAccessible declarer) answer =
    Tells world declarer (λ name. NotAccessible name) answer
SaysRefused world (reply.Ambiguous first second) answer = TellsTwo world first second answer
SaysRefused world reply.WrongKind answer = answer ≡ WrongKind
SaysRefused world (reply.Cycle at) answer = Tells world at (λ name. Cycle name) answer

abbrev pub IsRefused : {T : Type 0} → World → Reply T → Type 0
IsRefused world said = (answer : Answer) × SaysRefused world said answer
