use Rattle.std.proofs.Common.{refl, []}
use Rattle.productions.proofs.Combining.{law_reads}
use Rattle.productions.proofs.Types.{dimensions_law}
use Rattle.productions.proofs.laws.dimensions_are_read.Goals as goal

pub returns : goal.returns
returns c = law_reads dimensions_law [] refl
