use Rattle.std.proofs.Common.{◌≡◌, map, take}
use Rattle.type_expr_parser.specs.Names.{plain_part}
use Rattle.type_expr_parser.proofs.name.plain_type.Given as goal

abbrev pub invariant-loop-word : goal.invariant-loop-word
invariant-loop-word l = l.parts.items ≡ map plain_part (take l.word-index l.words)
