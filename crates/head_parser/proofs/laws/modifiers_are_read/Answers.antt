use Rattle.std.proofs.Common.{refl, [], ◌∷◌}
use Rattle.java_token.specs.declared.token.TokenKind.TheVariants as kind
use Rattle.java_token.specs.declared.operator.OpTok.TheVariants as op
use Rattle.java_grammar.specs.Parts.{part_of}
use Rattle.java_grammar.specs.Marks.{Single}
use Rattle.productions.proofs.Combining.{law_reads}
use Rattle.head_parser.specs.Modifiers.{keyword, sealed_line, non_sealed_line, modifier_line}
use Rattle.head_parser.specs.Modifiers.{modifiers}
use Rattle.head_parser.proofs.ModifierLaws.{modifiers_law}
use Rattle.head_parser.proofs.laws.modifiers_are_read.Goals as goal

-- before a comma
pub returns : goal.returns
unfolding modifiers modifier_line sealed_line non_sealed_line keyword part_of
returns c =
    law_reads modifiers_law (Single (record { kind = kind.Op op.Comma; line = 0 }) ∷ []) refl
