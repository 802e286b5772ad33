use Rattle.std.proofs.Common.{◌≡◌, ◌≤◌, ℕ, Bool, List, length}
use Rattle.std.specs.Vec.{vec_len, vec_capacity}
use Rattle.supertypes.specs.Walk.{IsWalk}
use Rattle.supertypes.specs.Walking.{IsWalking}
use Rattle.supertypes.proofs.state.State.onward.Given as goal

abbrev pub invariant-loop-step : goal.invariant-loop-step
invariant-loop-step l = record {
  marks : l.self.marks.items ≡ l.fn.self.marks.items;
  found : l.self.found.items ≡ l.fn.self.found.items;
  found_room : vec_capacity l.self.found ≡ vec_capacity l.fn.self.found;
  path_room : vec_capacity l.self.path ≡ vec_capacity l.fn.self.path;
  path : length l.self.path.items ≤ length l.fn.self.path.items;
  walks : (start : ℕ) (walk : ℕ → List ℕ) (test : ℕ → Bool) → IsWalk l.graph start walk →
      IsWalking l.graph start walk test l.fn.self → IsWalking l.graph start walk test l.self;
}

abbrev pub decreases-loop-step : goal.decreases-loop-step
decreases-loop-step l = vec_len l.self.path
