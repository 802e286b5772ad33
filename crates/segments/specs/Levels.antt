-- What becomes of the segments that are read.
use Rattle.std.specs.Prelude.{ℕ, false, List, [], ◌∷◌, ◌++◌}
use Rattle.java_token.specs.declared.token.Token.{Token}
use Rattle.segments.specs.declared.segment.Segment.{Segment}
use Rattle.segments.specs.declared.segment.SegEnd.{SegEnd}
use Rattle.segments.specs.declared.level.Level.{Level}
use Rattle.segments.specs.Cut.{tail_of}

abbrev pub fresh : ℕ → Level
fresh left =
    record { left = left; done = []; head = []; is_assigned = false; is_behind_default = false }

abbrev pub stored : Level → Token → Level
stored level token = record level { head = level.head ++ token ∷ [] }

abbrev pub ended : Level → SegEnd → Level
ended level end =
    record (fresh level.left) { done = level.done ++ record { head = level.head; end = end } ∷ [] }

abbrev pub segments_of : Level → List Segment
segments_of level = level.done ++ tail_of level.head
