use Rattle.signature_scan.proofs.Functions.{verdict_right, one_verdict, all_bytes}
use Rattle.signature_scan.proofs.laws.verdict_by_text.Goals as goal

pub returns-clause-right : goal.returns-clause-right
returns-clause-right c = λ place text all. verdict_right place text (all_bytes text all)

pub returns-clause-only : goal.returns-clause-only
returns-clause-only c = λ place text one other s t. one_verdict place text one other s t
