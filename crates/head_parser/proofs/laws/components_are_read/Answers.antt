use Rattle.std.proofs.Common.{refl, []}
use Rattle.productions.specs.Lists.{typed}
use Rattle.productions.proofs.Combining.{law_reads}
use Rattle.productions.proofs.Parentheses.{in_parentheses_law}
use Rattle.head_parser.specs.Formals.{component}
use Rattle.head_parser.proofs.FormalLaws.{component_law}
use Rattle.head_parser.proofs.laws.components_are_read.Goals as goal

pub returns : goal.returns
unfolding component typed
returns c = law_reads (in_parentheses_law component_law refl refl refl refl) [] refl
