use Rattle.std.proofs.Common.{◌∙◌, sym}
use Rattle.java_types.proofs.OneTree.{one_signature}
use Rattle.java_types.proofs.laws.one_signature.Goals as goal

pub returns-clause-tree : goal.returns-clause-tree
returns-clause-tree c = one_signature

pub returns-clause-text : goal.returns-clause-text
returns-clause-text c = λ place sig one other s t. s.whole ∙ sym t.whole
