use Rattle.signature_scan.proofs.Beginnings.{begins_to, begins_from, beginning_right}
use Rattle.signature_scan.proofs.Functions.{all_bytes}
use Rattle.signature_scan.proofs.laws.beginning_by_text.Goals as goal

pub returns-clause-begins : goal.returns-clause-begins
returns-clause-begins c = λ place text all.
    (begins_to place text, begins_from place text (all_bytes text all))

pub returns-clause-longest : goal.returns-clause-longest
returns-clause-longest c = λ place text all. beginning_right place text (all_bytes text all)
