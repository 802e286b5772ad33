use Rattle.std.proofs.Common.{◌≡◌, ℕ, ◌<◌, false, List, map, get_or, vec_len}
use Rattle.std.specs.Prelude.{bytes_eq}
use Rattle.std.specs.Borrow.{Bor}
use Rattle.std.specs.HashSet.{contains_by}
use Rattle.used_files.specs.Parts.{now_of}
use Rattle.used_files.specs.Paths.{is_among, is_repeated}
use Rattle.used_files.proofs.Keys.{before}
use Rattle.used_files.proofs.repeats.repeated_marks.Given as goal

-- so far each has its mark, and the set has the keys that were gone over
abbrev pub invariant-loop-key : goal.invariant-loop-key
invariant-loop-key l = record {
  len : vec_len l.marks ≡ l.key-index;
  marks : (k : ℕ) → k < l.key-index
      → get_or l.marks.items k false ≡ is_repeated (map now_of l.keys) k;
  seen : (q : Bor (List ℕ))
      → contains_by (λ key. bytes_eq q.now key.now) l.seen
      ≡ is_among (before l.keys l.key-index) q.now;
}
