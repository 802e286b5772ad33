use Rattle.std.proofs.Common.{refl, []}
use Rattle.productions.proofs.Combining.{law_reads}
use Rattle.productions.proofs.Leaves.{annotation_law}
use Rattle.productions.proofs.laws.annotations_are_read.Goals as goal

pub returns : goal.returns
returns c = law_reads annotation_law [] refl
