use Rattle.std.proofs.Common.{◌≡◌, drop}
use Rattle.head_parser.specs.Modifiers.{has_number}
use Rattle.head_parser.proofs.modifier.has_number.Given as goal

abbrev pub invariant-loop-at : goal.invariant-loop-at
invariant-loop-at l = has_number l.of l.items ≡ has_number l.of (drop l.at l.items)
