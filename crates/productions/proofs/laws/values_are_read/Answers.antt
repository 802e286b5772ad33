use Rattle.std.proofs.Common.{refl, []}
use Rattle.productions.proofs.Combining.{law_reads}
use Rattle.productions.proofs.Types.{value_law}
use Rattle.productions.proofs.laws.values_are_read.Goals as goal

pub returns : goal.returns
returns c = law_reads value_law [] refl
