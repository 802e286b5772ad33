use Rattle.std.proofs.Common.{◌≡◌, length}
use Rattle.java_lexer.specs.declared.standing.Standing.TheVariants as standing
use Rattle.source_rows.proofs.lexing.byte_by_byte.Given as goal

-- the lexer takes bytes, and has taken those before the index
abbrev pub invariant-loop-index : goal.invariant-loop-index
invariant-loop-index l = record {
  standing : l.lexer.standing ≡ standing.Open;
  taken : length l.lexer.fed ≡ l.index;
}
