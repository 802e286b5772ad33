use Rattle.std.proofs.Common.{refl, []}
use Rattle.productions.proofs.Combining.{law_reads}
use Rattle.head_parser.specs.Types.{bounds, named}
use Rattle.head_parser.proofs.TypeLaws.{bounds_law}
use Rattle.head_parser.proofs.laws.bounds_are_read.Goals as goal

pub returns : goal.returns
unfolding bounds named
returns c = law_reads bounds_law [] refl
