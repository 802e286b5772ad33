-- That fronts of spelled lists of segments are spelled: so the first segment with which the front
-- isn't spelled is the first one with which the segments so far begin no list that is.
use Rattle.std.specs.Prelude.{List, ◌++◌}
use Rattle.segments.specs.declared.segment.Segment.{Segment}
use Rattle.java_grammar.specs.Units.{Context, IsSpelled}

-- in a unit, and in the body of a class of any kind and name
abbrev pub FrontsAreSpelled : Type 0
FrontsAreSpelled = (at : Context) (before behind : List Segment) → IsSpelled at (before ++ behind)
    → IsSpelled at before
