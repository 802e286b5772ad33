use Rattle.std.proofs.Common.{◌≡◌, map, drop}
use Rattle.java_lexer.specs.Keywords.{look_up}
use Rattle.java_lexer.proofs.KeywordLemmas.{read}
use Rattle.java_lexer.proofs.keyword.find.Given as goal

-- no entry so far has the text
abbrev pub invariant-loop-text : goal.invariant-loop-text
invariant-loop-text l =
    look_up (map read (drop l.text-index l.entries)) l.word ≡ look_up (map read l.entries) l.word
