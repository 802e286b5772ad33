use Rattle.std.proofs.Common.{◌≡◌, [], arith, rules}
use Rattle.std.specs.Prelude.{codes}
use Rattle.descriptor_scan.proofs.Passed.{otherwise_at, otherwise_at_end}
use Rattle.descriptor_scan.proofs.Methods.{one_byte, longer_than_one, void_result, field_result}
use Rattle.descriptor_scan.proofs.Methods.{result_only}
use Rattle.descriptor_scan.proofs.method.is_result.Goals as goal
use Rattle.descriptor_scan.proofs.method.is_result.Goals.{in_default-via-then-text-lt1}
use Rattle.descriptor_scan.proofs.method.is_result.Goals.{in_default-via-else-text-lt1+then-text-lt2+in_default-1}
use Rattle.descriptor_scan.proofs.method.is_result.Goals.{in_default-via-else-text-lt1+else-text-lt2}

pub returns-in-86-clause-spelled : goal.returns-in-86-clause-spelled
returns-in-86-clause-spelled c
    = λ e. void_result c.args.text.now (one_byte 86 c.args.text.now (omega arith) (omega arith))

pub returns-in_default-clause-spelled : goal.returns-in_default-clause-spelled
returns-in_default-clause-spelled c
    = λ e. field_result c.args.text.now (c.is_field_descriptor.ensures.spelled e)

pub returns-in_default-clause-only : goal.returns-in_default-clause-only
returns-in_default-clause-only c =
    let text = c.args.text.now in
    let other : text ≡ codes "V" → ⊥ = elim c.in_default.branch [
      | in_default-via-then-text-lt1 w ↦ otherwise_at_end 86 text (search rules) []
      | in_default-via-else-text-lt1+then-text-lt2+in_default-1 w ↦ otherwise_at 86 text
          (λ e. absurd (omega arith)) []
      | in_default-via-else-text-lt1+else-text-lt2 w ↦ longer_than_one 86 text (search rules)
    ] in
    result_only text c.is_field_descriptor.result other c.is_field_descriptor.ensures.only
