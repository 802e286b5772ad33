use Rattle.std.proofs.Common.{◌≡◌, ◌++◌, drop}
use Rattle.java_lexer.specs.LineTerminators.{normalized}
use Rattle.java_lexer.proofs.block.normalize.Given as goal

-- what has been normalized, and then what is left
abbrev pub invariant-loop-index : goal.invariant-loop-index
invariant-loop-index l = l.normal.items ++ normalized (drop l.index l.units) ≡ normalized l.units
