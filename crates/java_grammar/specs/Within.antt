-- That what is passed stands in the list.
use Rattle.std.specs.Prelude.{ℕ, ◌≤◌, ◌+◌}
use Rattle.java_grammar.specs.declared.type_arguments.AngleStep.{AngleStep}
use Rattle.java_grammar.specs.declared.type_arguments.AngleStep.TheVariants as angle

-- of an angle step before so many parts, where so many angles were open: what it passes is among
-- them, and at most one angle more is open
abbrev pub IsAngleStepWithin : ℕ → ℕ → AngleStep → Type 0
IsAngleStepWithin was length (angle.GoesOn depth more) = (more ≤ length) × (depth ≤ was + 1)
IsAngleStepWithin was length (angle.Closes left) = Unit {0}
IsAngleStepWithin was length angle.Stops = Unit {0}
