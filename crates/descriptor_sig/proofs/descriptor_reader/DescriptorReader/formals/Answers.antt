use Rattle.std.proofs.Common.{arith, rules}
use Rattle.std.proofs.lemmas.Result.{err_from_is_err_and}
use Rattle.descriptor_sig.specs.Parts.{BeginsOtherwise, FieldSpells, FormalsSpell}
use Rattle.descriptor_sig.proofs.Fields.{read_smaller}
use Rattle.descriptor_sig.proofs.Descriptors.{stuck_formals}
use Rattle.descriptor_sig.proofs.Stops.{otherwise_at, otherwise_at_end, stopped}
use Rattle.descriptor_sig.proofs.descriptor_reader.DescriptorReader.formals.Goals as goal
use Rattle.descriptor_sig.proofs.descriptor_reader.DescriptorReader.formals.Goals.{then-self-lt1}
use Rattle.descriptor_sig.proofs.descriptor_reader.DescriptorReader.formals.Goals.{else-self-lt1+in_default-1}

pub returns-in_err-field_type : goal.returns-in_err-field_type
returns-in_err-field_type c =
    let text = c.args.self.now.rest.now in
    let inner = c.loop-self.self.rest.now in
    let left = c.field_type.new.self.rest.now in
    let no_end : BeginsOtherwise 41 inner =
    elim c.if-self-lt1.branch [
      | then-self-lt1 w ↦ otherwise_at_end 41 inner (search rules)
      | else-self-lt1+in_default-1 w ↦ otherwise_at 41 inner (λ e. absurd (omega arith))
    ] in
    stopped FieldSpells FormalsSpell c.in_err-field_type.field-0.0 c.from_residual.result inner
    left
    text
    (err_from_is_err_and c.from_residual.result c.from_residual.ensures.1)
    c.in_err-field_type.ensures
    (stuck_formals c.loop-self.formals.items text inner left c.loop-self.invariant no_end)

pub loop-self-smaller : goal.loop-self-smaller
loop-self-smaller c =
    read_smaller c.in_ok-field_type.field-0 c.loop-self.self.rest.now
    c.field_type.new.self.rest.now
    c.in_ok-field_type.ensures
