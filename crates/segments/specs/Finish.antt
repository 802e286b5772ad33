-- What a cutter answers at the end of the list.
use Rattle.std.specs.Prelude.{ℕ, List, [], ◌∷◌, Option, Some, None, Result, Ok, Err}
use Rattle.segments.specs.declared.segment.Segment.{Segment}
use Rattle.segments.specs.declared.error.SegErr.{SegErr}
use Rattle.segments.specs.declared.error.SegErr.TheVariants.{Unbalanced, TooDeep}
use Rattle.segments.specs.declared.level.Level.{Level}
use Rattle.segments.specs.declared.cutter.Cutter.{Cutter}
use Rattle.segments.specs.declared.cutter.Open.{Open}
use Rattle.segments.specs.Levels.{segments_of}

abbrev pub finished_by : Option ℕ → List Open → Option ℕ → Level → Result (List Segment) SegErr
finished_by (Some line) brackets deep level = Err (Unbalanced line)
finished_by None (b ∷ bs) deep level = Err (Unbalanced b.line)
finished_by None [] (Some line) level = Err (TooDeep line)
finished_by None [] None level = Ok (segments_of level)

abbrev pub finished : Cutter → Result (List Segment) SegErr
finished cutter = finished_by cutter.wrong cutter.brackets cutter.deep cutter.level
