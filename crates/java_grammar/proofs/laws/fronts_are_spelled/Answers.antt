use Rattle.java_grammar.proofs.Fronts.{fronts}
use Rattle.java_grammar.proofs.laws.fronts_are_spelled.Goals as goal

pub returns : goal.returns
returns c = fronts
