use Rattle.std.proofs.Common.{refl, []}
use Rattle.productions.proofs.Combining.{law_reads}
use Rattle.head_parser.specs.Types.{throws, named_types, named}
use Rattle.head_parser.proofs.TypeLaws.{throws_law}
use Rattle.head_parser.proofs.laws.types_thrown_are_read.Goals as goal

pub returns : goal.returns
unfolding throws named_types named
returns c = law_reads throws_law [] refl
