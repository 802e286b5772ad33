use Rattle.std.proofs.Common.{refl, []}
use Rattle.productions.proofs.Combining.{law_reads}
use Rattle.head_parser.specs.Units.{import_line, static_word, on_demand, dot_star}
use Rattle.head_parser.proofs.UnitLaws.{import_law}
use Rattle.head_parser.proofs.laws.imports_are_read.Goals as goal

pub returns : goal.returns
unfolding import_line static_word on_demand dot_star
returns c = law_reads import_law [] refl
