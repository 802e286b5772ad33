use Rattle.std.proofs.Common.{◌≡◌, ◌≤◌, ◌-◌, ◌++◌, drop, length}
use Rattle.java_lexer.specs.Blocks.{stripped}
use Rattle.java_lexer.proofs.block.strip.Given as goal

-- the lines so far, and then those that are left
abbrev pub invariant-lines : goal.invariant-lines
invariant-lines l = record {
  text : l.stripped.items ++ stripped l.width (drop l.at l.content)
      ≡ stripped l.width l.content;
  within : l.at ≤ length l.content;
}

abbrev pub decreases-lines : goal.decreases-lines
decreases-lines l = length l.content - l.at
