use Rattle.std.proofs.Common.{refl, []}
use Rattle.productions.proofs.Combining.{law_reads}
use Rattle.productions.proofs.Leaves.{qualified_name_law}
use Rattle.productions.proofs.laws.names_are_read.Goals as goal

pub returns : goal.returns
returns c = law_reads qualified_name_law [] refl
