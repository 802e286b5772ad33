-- Why a question isn't gone into.
use Rattle.std.specs.Prelude.{◌≡◌, ℕ, true, List, slice_get, Result, Ok, Err, Some}
use Rattle.class_views.specs.View.{View}
use Rattle.class_views.specs.World.{World, HasNoRing}
use Rattle.class_views.specs.Access.{Client}
use Rattle.class_views.specs.Query.{Query, Answer, NotFound, NotAccessible, Cycle, ask, answer_in}
use Rattle.class_views.specs.Query.{class_asked, asks_beyond}
use Rattle.client_view.specs.Replies.{Tells}
use Rattle.client_view.specs.declared.reply.MemberAt.{MemberAt}
use Rattle.client_view.specs.declared.reply.Reply.{Reply}
use Rattle.client_view.specs.declared.reply.Reply.TheVariants as reply
use Rattle.client_view.specs.declared.refusal.Refusal.{Refusal}
use Rattle.client_view.specs.declared.refusal.Refusal.TheVariants as refusal

abbrev pub reply_of : {T : Type 0} → Refusal → Reply T
reply_of refusal.NoClass = reply.NotFound
reply_of (refusal.Hidden class) = reply.NotAccessible class
reply_of (refusal.Ring class) = reply.Cycle class

-- the answer that a refusal gives
abbrev pub Refuses : World → Refusal → Answer → Type 0
Refuses world refusal.NoClass answer = answer ≡ NotFound
Refuses world (refusal.Hidden class) answer =
    Tells world class (λ name. NotAccessible name) answer
Refuses world (refusal.Ring class) answer = Tells world class (λ name. Cycle name) answer

-- a class that leads to no ring
pub record IsFree (world : World) (number : ℕ) : Type 0 where
  pub class : View
  pub there : slice_get world number ≡ Some class
  pub free : HasNoRing world class.name

-- a question about a class of the name, which asks for more than the class
pub record GoesBeyond (name : List ℕ) (query : Query) : Type 0 where
  pub asked : class_asked query ≡ name
  pub beyond : asks_beyond query ≡ true

-- the class that such questions go into
pub record Enters (world : World) (client : Client) (name : List ℕ) (number : ℕ) : Type 0 where
  pub class : View
  pub there : slice_get world number ≡ Some class
  pub named : class.name ≡ name
  pub free : HasNoRing world name
  pub answers : (query : Query) → GoesBeyond name query →
      ask world client query ≡ answer_in world client class query

abbrev pub Starts : World → Client → List ℕ → Result ℕ Refusal → Type 0
Starts world client name (Ok number) = Enters world client name number
Starts world client name (Err refusal) =
    (query : Query) → GoesBeyond name query → Refuses world refusal (ask world client query)

-- the class of the member that is found
abbrev pub class_reply : Reply MemberAt → Reply ℕ
class_reply (reply.Found at) = reply.Found at.class
class_reply reply.NotFound = reply.NotFound
class_reply (reply.NotAccessible declarer) = reply.NotAccessible declarer
class_reply (reply.Ambiguous first second) = reply.Ambiguous first second
class_reply reply.WrongKind = reply.WrongKind
class_reply (reply.Cycle at) = reply.Cycle at
