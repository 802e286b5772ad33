use Rattle.std.proofs.Common.{◌≡◌, ◌≤◌, ◌+◌, ◌-◌, length, drop}
use Rattle.java_grammar.specs.Parts.{parts}
use Rattle.java_grammar.specs.Extents.{piece_at, row_of}
use Rattle.java_grammar.proofs.extent.extent_length.Given as goal

abbrev pub invariant-loop-at : goal.invariant-loop-at
invariant-loop-at l = record {
  counted : row_of piece_at (parts l.tokens) ≡ l.at + row_of piece_at (parts (drop l.at l.tokens));
  within : l.at ≤ length l.tokens;
}

abbrev pub decreases-loop-at : goal.decreases-loop-at
decreases-loop-at l = length l.tokens - l.at
