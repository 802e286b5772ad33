use Rattle.std.proofs.Common.{refl, []}
use Rattle.productions.proofs.Combining.{law_reads}
use Rattle.productions.proofs.Types.{bare_type_law}
use Rattle.productions.proofs.laws.bare_types_are_read.Goals as goal

pub returns : goal.returns
returns c = law_reads bare_type_law [] refl
