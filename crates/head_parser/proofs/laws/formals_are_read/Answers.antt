use Rattle.std.proofs.Common.{refl, []}
use Rattle.productions.proofs.Combining.{law_reads}
use Rattle.productions.specs.Lists.{typed}
use Rattle.head_parser.specs.Modifiers.{modifier_line, sealed_line, non_sealed_line, keyword}
use Rattle.head_parser.specs.Formals.{formals, formal, formal_end, outer_this}
use Rattle.head_parser.proofs.FormalLaws.{formals_law}
use Rattle.head_parser.proofs.laws.formals_are_read.Goals as goal

pub returns : goal.returns
unfolding formals formal formal_end outer_this typed modifier_line sealed_line
    non_sealed_line keyword
returns c = law_reads formals_law [] refl
