use Rattle.std.proofs.Common.{◌≡◌, ◌≤◌, ◌-◌, take, length, false}
use Rattle.java_lexer.specs.Lexing.{cut_of}
use Rattle.java_lexer.specs.Cutting.{ends_begun, ends_in_return}
use Rattle.java_lexer.proofs.CutLemmas.{behind_tokens, cut_at}
use Rattle.java_lexer.proofs.cut.cut_pieces.Given as goal

-- the tokens so far and the cut of what is left are the whole cut
abbrev pub invariant-loop-at : goal.invariant-loop-at
invariant-loop-at l = record {
  whole : behind_tokens l.tokens.items (cut_at l.at l.units) ≡ cut_of l.units;
  within : l.at ≤ length l.units;
  ends : l.place.line_ends ≡ ends_begun false (take l.at l.units);
  last : l.place.after_return ≡ ends_in_return false (take l.at l.units);
  bound : l.place.line_ends ≤ l.at;
}

abbrev pub decreases-loop-at : goal.decreases-loop-at
decreases-loop-at l = length l.units - l.at
