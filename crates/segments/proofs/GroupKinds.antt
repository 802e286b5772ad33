-- What an open group is to the model of the cutter: a class body has the level that it stands in.
use Rattle.segments.specs.declared.level.Level.{Level}

pub data Kind : Type 0 where
  Outer : Kind
  Inner : Kind
  Hidden : Kind
  Skipped : Kind
  Body : Level → Kind
