use Rattle.std.proofs.Common.{◌∙◌}
use Rattle.descriptor_sig.proofs.Bytes.{dimensions_build, kept_if_few}
use Rattle.descriptor_sig.proofs.signature_reader.SignatureReader.dimensions.Goals as goal

pub returns-clause-count : goal.returns-clause-count
returns-clause-count c =
    dimensions_build c.args.self.now c.split_at.result.1.now c.brackets-count.result
    c.unwrap_or.result c.brackets-count.ensures.value
    (λ few. c.unwrap_or.ensures ∙ kept_if_few _ c.try_from.result c.brackets-count.result _
    c.try_from.ensures few) (cc)
