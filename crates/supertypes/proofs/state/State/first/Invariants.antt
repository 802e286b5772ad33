use Rattle.std.proofs.Common.{◌≡◌, ◌≤◌, ℕ, Bool, true, false, List, length, get_or}
use Rattle.std.specs.Prelude.{IfSome}
use Rattle.reachability.specs.Search.{unmarked}
use Rattle.supertypes.specs.State.{IsSteady}
use Rattle.supertypes.specs.Walk.{IsWalk}
use Rattle.supertypes.specs.Walking.{IsSeeking}
use Rattle.supertypes.proofs.state.State.first.Given as goal

abbrev pub invariant-loop-next : goal.invariant-loop-next
invariant-loop-next g l = record {
  steady : IsSteady l.self;
  level : length l.self.marks.items ≡ length l.fn.self.marks.items;
  short : length l.self.path.items ≤ length l.self.found.items;
  fresh : IfSome l.next (λ class. get_or l.self.marks.items class true ≡ false);
  seeks : (walk : ℕ → List ℕ) (test : ℕ → Bool) → IsWalk l.graph l.start walk →
      ((class : ℕ) (is : Bool) → goal.F-post g l.is_sought class is → is ≡ test class) →
      IsSeeking l.graph l.start walk test l.self l.next;
}

abbrev pub decreases-loop-next : goal.decreases-loop-next
decreases-loop-next g l = unmarked l.self.marks.items
