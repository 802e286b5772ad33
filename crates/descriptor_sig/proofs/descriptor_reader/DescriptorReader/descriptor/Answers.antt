use Rattle.std.proofs.Common.{arith, rules}
use Rattle.std.proofs.lemmas.Result.{err_from_is_err_and}
use Rattle.java_types.specs.Descriptor.{DescriptorSpells}
use Rattle.descriptor_sig.specs.Parts.{BeginsOtherwise, FieldSpells}
use Rattle.descriptor_sig.proofs.ClassNames.{tail_of}
use Rattle.descriptor_sig.proofs.Descriptors.{stuck_of_field}
use Rattle.descriptor_sig.proofs.Stops.{opened_as, otherwise_at, otherwise_at_end, stopped}
use Rattle.descriptor_sig.proofs.Stops.{of_method}
use Rattle.descriptor_sig.proofs.descriptor_reader.DescriptorReader.descriptor.Goals as goal
use Rattle.descriptor_sig.proofs.descriptor_reader.DescriptorReader.descriptor.Goals.{then-self-lt1}
use Rattle.descriptor_sig.proofs.descriptor_reader.DescriptorReader.descriptor.Goals.{else-self-lt1+in_default-1}

pub returns-in-40 : goal.returns-in-40
returns-in-40 c =
    let text = c.args.self.now.rest.now in
    of_method c.method.result text (tail_of text) c.method.new.self.rest.now
    (opened_as 40 text (omega arith) (omega arith)) c.method.ensures

pub returns-in_err-field_type : goal.returns-in_err-field_type
returns-in_err-field_type c =
    let text = c.args.self.now.rest.now in
    let left = c.field_type.new.self.rest.now in
    let no_method : BeginsOtherwise 40 text =
    elim c.if-self-lt1.branch [
      | then-self-lt1 w ↦ otherwise_at_end 40 text (search rules)
      | else-self-lt1+in_default-1 w ↦ otherwise_at 40 text (λ e. absurd (omega arith))
    ] in
    stopped FieldSpells DescriptorSpells c.in_err-field_type.field-0.0 c.from_residual.result text
    left text
    (err_from_is_err_and c.from_residual.result c.from_residual.ensures.1)
    c.in_err-field_type.ensures
    (stuck_of_field text left no_method)
