use Rattle.java_types.proofs.OneDescriptor.{descriptor_found, descriptor_spelled}
use Rattle.java_types.proofs.laws.descriptor_by_text.Goals as goal

pub returns-clause-found : goal.returns-clause-found
returns-clause-found c = λ text sig s. descriptor_found sig text s

pub returns-clause-spelled : goal.returns-clause-spelled
returns-clause-spelled c = λ text sig e. descriptor_spelled sig text e
