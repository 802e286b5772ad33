use Rattle.std.proofs.Common.{◌∙◌, ap, sym}
use Rattle.java_types.specs.Trees.{descriptor_of}
use Rattle.java_types.proofs.OneDescriptor.{descriptor_found}
use Rattle.descriptor_sig.proofs.Stops.{answered}
use Rattle.descriptor_sig.proofs.descriptor.read_descriptor.Goals as goal

pub returns-in-Err-Stuck-clause-bad : goal.returns-in-Err-Stuck-clause-bad
returns-in-Err-Stuck-clause-bad c =
    answered c.args.text.now c.bytes-bytes.result.now c.of-reader.result.rest.now
    c.whole.new.self.rest.now c.left.result
    c.of-reader.ensures c.bytes-bytes.ensures c.left.ensures
    (rw c.in-Err-Stuck.field-0-is at c.in-Err-Stuck.ensures)

pub returns-in-Ok-clause-by_text : goal.returns-in-Ok-clause-by_text
returns-in-Ok-clause-by_text c =
    let text = c.bytes-bytes.result.now in
    ap descriptor_of (sym c.bytes-bytes.ensures) ∙ ap descriptor_of (sym c.of-reader.ensures)
    ∙ descriptor_found c.in-Ok.sig _ c.in-Ok.ensures.spells
