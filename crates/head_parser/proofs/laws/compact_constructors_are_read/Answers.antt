use Rattle.std.proofs.Common.{refl, []}
use Rattle.productions.proofs.Combining.{law_reads}
use Rattle.head_parser.specs.Modifiers.{modifiers, modifier_line, sealed_line, non_sealed_line, keyword}
use Rattle.head_parser.specs.Methods.{compact_line, compact_end}
use Rattle.head_parser.proofs.MethodLaws.{compact_law}
use Rattle.head_parser.proofs.laws.compact_constructors_are_read.Goals as goal

pub returns : goal.returns
unfolding compact_line compact_end modifiers modifier_line sealed_line non_sealed_line keyword
returns c = λ name. law_reads (compact_law name) [] refl
