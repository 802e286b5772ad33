use Rattle.std.proofs.Common.{◌∙◌, sym}
use Rattle.java_types.proofs.OneDescriptor.{one_descriptor}
use Rattle.java_types.proofs.laws.one_descriptor.Goals as goal

pub returns-clause-tree : goal.returns-clause-tree
returns-clause-tree c = one_descriptor

pub returns-clause-text : goal.returns-clause-text
returns-clause-text c = λ sig one other s t. s.whole ∙ sym t.whole
