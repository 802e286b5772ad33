use Rattle.std.proofs.Common.{◌≡◌, ◌<◌, ◌^◌, drop}
use Rattle.java_lexer.proofs.NumberLemmas.{number_behind}
use Rattle.java_lexer.proofs.integer.number.Given as goal

-- the digits that are left go on the number so far
abbrev pub invariant-loop-unit : goal.invariant-loop-unit
invariant-loop-unit l = record {
  read : number_behind l.radix l.number (drop l.unit-index l.units)
      ≡ number_behind l.radix 0 l.units;
  fits : l.number < 2 ^ 64;
}
