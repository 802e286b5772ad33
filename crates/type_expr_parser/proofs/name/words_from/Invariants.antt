use Rattle.std.proofs.Common.{◌≡◌, ◌-◌, [], ◌∷◌}
use Rattle.type_expr_parser.specs.Reading.{prepended, many}
use Rattle.type_expr_parser.specs.Names.{further_word_at}
use Rattle.type_expr_parser.proofs.name.words_from.Given as goal

abbrev pub invariant-loop : goal.invariant-loop
invariant-loop l =
    prepended l.words.items (many further_word_at (l.depth - l.counter) l.reader)
    ≡ prepended (l.fn.first ∷ []) (many further_word_at l.depth l.fn.reader)
