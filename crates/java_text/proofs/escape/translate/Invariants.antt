use Rattle.std.proofs.Common.{◌≡◌, ◌≤◌, ◌-◌, ◌++◌, List, length, drop}
use Rattle.java_text.specs.declared.escape.Input.{Input}
use Rattle.java_text.specs.Ending.{EndsSo}
use Rattle.java_text.specs.Source.{inputs_behind, translated}
use Rattle.java_text.proofs.EscapeLemmas.{units_of}
use Rattle.java_text.proofs.escape.translate.Given as goal

-- what has been translated, and then what is left
abbrev pub invariant-loop-at : goal.invariant-loop-at
invariant-loop-at l = (recent : List Input) × EndsSo recent l.ending × l.at ≤ length l.raw
    × (l.units.items ++ units_of (inputs_behind recent (drop l.at l.raw)) ≡ translated l.raw)

abbrev pub decreases-loop-at : goal.decreases-loop-at
decreases-loop-at l = length l.raw - l.at
