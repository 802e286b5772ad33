use Rattle.std.proofs.Common.{◌≡◌, drop}
use Rattle.head_parser.specs.Modifiers.{each_once}
use Rattle.head_parser.proofs.modifier.are_each_once.Given as goal

abbrev pub invariant-loop-at : goal.invariant-loop-at
invariant-loop-at l = each_once l.items ≡ each_once (drop l.at l.items)
