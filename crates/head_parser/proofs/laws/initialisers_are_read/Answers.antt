use Rattle.std.proofs.Common.{refl, []}
use Rattle.productions.proofs.Combining.{law_reads}
use Rattle.head_parser.specs.Methods.{block_line}
use Rattle.head_parser.proofs.MethodLaws.{block_law}
use Rattle.head_parser.proofs.laws.initialisers_are_read.Goals as goal

pub returns : goal.returns
unfolding block_line
returns c = law_reads block_law [] refl
