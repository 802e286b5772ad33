use Rattle.java_types.proofs.OneTree.{signature_found, signature_spelled}
use Rattle.java_types.proofs.laws.signature_by_text.Goals as goal

pub returns-clause-found : goal.returns-clause-found
returns-clause-found c = λ place text sig s. signature_found place sig text s

pub returns-clause-spelled : goal.returns-clause-spelled
returns-clause-spelled c = λ place text sig e. signature_spelled place sig text e
