use Rattle.std.proofs.Common.{refl, []}
use Rattle.productions.proofs.Combining.{law_reads}
use Rattle.head_parser.specs.Types.{params, param, bounds, named}
use Rattle.head_parser.proofs.TypeLaws.{params_law}
use Rattle.head_parser.proofs.laws.type_parameters_are_read.Goals as goal

pub returns : goal.returns
unfolding params param bounds named
returns c = law_reads params_law [] refl
