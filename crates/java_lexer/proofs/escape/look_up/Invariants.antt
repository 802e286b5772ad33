use Rattle.std.proofs.Common.{◌≡◌, drop}
use Rattle.java_lexer.specs.Escapes.{look_up}
use Rattle.java_lexer.proofs.escape.look_up.Given as goal

-- no entry so far has the unit
abbrev pub invariant-loop-sign : goal.invariant-loop-sign
invariant-loop-sign l = look_up (drop l.sign-index l.entries) l.unit ≡ look_up l.entries l.unit
