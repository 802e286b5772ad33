use Rattle.std.proofs.Common.{refl, []}
use Rattle.productions.specs.Lists.{typed}
use Rattle.productions.proofs.Combining.{law_reads}
use Rattle.productions.proofs.BeforeDots.{typed_law}
use Rattle.productions.proofs.laws.types_before_dots_are_read.Goals as goal

pub returns : goal.returns
unfolding typed
returns c = law_reads typed_law [] refl
