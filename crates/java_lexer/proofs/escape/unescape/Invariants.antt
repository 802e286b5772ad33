use Rattle.std.proofs.Common.{◌≡◌, ◌++◌, ◌-◌, drop, length}
use Rattle.std.specs.List.{concat}
use Rattle.java_lexer.specs.Escapes.{items_of, unescaped}
use Rattle.java_lexer.proofs.escape.unescape.Given as goal

-- what the items so far stand for, and then what is left
abbrev pub invariant-loop-at : goal.invariant-loop-at
invariant-loop-at l = l.plain.items ++ concat (items_of (drop l.at l.units)) ≡ unescaped l.units

abbrev pub decreases-loop-at : goal.decreases-loop-at
decreases-loop-at l = length l.units - l.at
