use Rattle.std.proofs.Common.{refl, []}
use Rattle.productions.proofs.Combining.{law_reads}
use Rattle.productions.proofs.Types.{any_type_law}
use Rattle.productions.proofs.laws.types_are_read.Goals as goal

pub returns : goal.returns
returns c = law_reads any_type_law [] refl
