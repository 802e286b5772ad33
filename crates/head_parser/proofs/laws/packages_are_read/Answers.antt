use Rattle.std.proofs.Common.{refl, []}
use Rattle.productions.proofs.Combining.{law_reads}
use Rattle.head_parser.specs.Units.{package_line}
use Rattle.head_parser.proofs.UnitLaws.{package_law}
use Rattle.head_parser.proofs.laws.packages_are_read.Goals as goal

pub returns : goal.returns
unfolding package_line
returns c = law_reads package_law [] refl
