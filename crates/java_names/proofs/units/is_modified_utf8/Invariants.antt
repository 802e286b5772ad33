use Rattle.std.proofs.Common.{ℕ, List, length}
use Rattle.java_names.proofs.ModifiedUtf8.{AreFront}
use Rattle.java_names.proofs.units.is_modified_utf8.Given as goal

-- some units were found
abbrev pub invariant-loop-rest : goal.invariant-loop-rest
invariant-loop-rest l = (units : List ℕ) × AreFront l.bytes units l.rest

abbrev pub decreases-loop-rest : goal.decreases-loop-rest
decreases-loop-rest l = length l.rest
