use Rattle.std.proofs.Common.{◌≡◌, ◌<◌, ℕ, [], length}
use Rattle.std.specs.Prelude.{Contains}
use Rattle.std.specs.Vec.{vec_len, vec_capacity}
use Rattle.supertypes.specs.State.{IsMarked}
use Rattle.supertypes.proofs.state.State.clean.Given as goal

abbrev pub invariant-loop-class : goal.invariant-loop-class
invariant-loop-class l = record {
  level : length l.self.marks.items ≡ length l.fn.self.marks.items;
  path : l.self.path.items ≡ [];
  marked : (n : ℕ) → IsMarked l.self n → Contains l.self.found.items n;
  range : (n : ℕ) → Contains l.self.found.items n → n < length l.self.marks.items;
  found_room : vec_capacity l.self.found ≡ vec_capacity l.fn.self.found;
  path_room : vec_capacity l.self.path ≡ vec_capacity l.fn.self.path;
}

abbrev pub decreases-loop-class : goal.decreases-loop-class
decreases-loop-class l = vec_len l.self.found
