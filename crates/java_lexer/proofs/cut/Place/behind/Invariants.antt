use Rattle.std.proofs.Common.{◌≡◌, ◌≤◌, ◌+◌, drop}
use Rattle.java_lexer.specs.Cutting.{ends_begun, ends_in_return}
use Rattle.java_lexer.proofs.cut.Place.behind.Given as goal

-- the line terminators so far, and then those that are left
abbrev pub invariant-loop-unit : goal.invariant-loop-unit
invariant-loop-unit l = record {
  ends : l.place.line_ends + ends_begun l.place.after_return (drop l.unit-index l.units)
      ≡ l.fn.self.line_ends + ends_begun l.fn.self.after_return l.units;
  last : ends_in_return l.place.after_return (drop l.unit-index l.units)
      ≡ ends_in_return l.fn.self.after_return l.units;
  bound : l.place.line_ends ≤ l.fn.self.line_ends + l.unit-index;
}
