use Rattle.std.proofs.Common.{◌≡◌, drop}
use Rattle.std.specs.List.{list_all}
use Rattle.java_grammar.specs.Modifiers.{is_annotation}
use Rattle.head_parser.proofs.formal.are_annotations.Given as goal

abbrev pub invariant-loop-at : goal.invariant-loop-at
invariant-loop-at l = list_all is_annotation l.items
    ≡ list_all is_annotation (drop l.at l.items)
