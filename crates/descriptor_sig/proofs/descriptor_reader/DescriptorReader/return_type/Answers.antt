use Rattle.std.proofs.Common.{arith, rules}
use Rattle.descriptor_sig.specs.Parts.{BeginsOtherwise}
use Rattle.descriptor_sig.proofs.Stops.{otherwise_at, otherwise_at_end, returned}
use Rattle.descriptor_sig.proofs.descriptor_reader.DescriptorReader.return_type.Goals as goal
use Rattle.descriptor_sig.proofs.descriptor_reader.DescriptorReader.return_type.Goals.{then-self-lt1}
use Rattle.descriptor_sig.proofs.descriptor_reader.DescriptorReader.return_type.Goals.{else-self-lt1+in_default-1}

pub returns : goal.returns
returns c =
    let text = c.args.self.now.rest.now in
    let no_void : BeginsOtherwise 86 text =
    elim c.if-self-lt1.branch [
      | then-self-lt1 w ↦ otherwise_at_end 86 text (search rules)
      | else-self-lt1+in_default-1 w ↦ otherwise_at 86 text (λ e. absurd (omega arith))
    ] in
    returned c.field_type.result text c.field_type.new.self.rest.now no_void c.field_type.ensures
