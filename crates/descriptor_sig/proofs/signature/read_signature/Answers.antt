use Rattle.descriptor_sig.proofs.Reading.{only_one, by_text, deep_at}
use Rattle.descriptor_sig.proofs.signature.read_signature.Goals as goal

pub returns-in-Fine-clause-only : goal.returns-in-Fine-clause-only
returns-in-Fine-clause-only c =
    only_one _ c.bytes-bytes.result.now c.args.text.now c.build.result c.bytes-bytes.ensures
    c.in-Fine.ensures.scanned c.build.ensures

pub returns-in-TooDeep-clause-deep : goal.returns-in-TooDeep-clause-deep
returns-in-TooDeep-clause-deep c =
    λ at e. deep_at _ c.bytes-bytes.result.now c.args.text.now c.in-TooDeep.at at
    c.bytes-bytes.ensures c.in-TooDeep.ensures.scanned (cc)

pub returns-in-Fine-clause-by_text : goal.returns-in-Fine-clause-by_text
returns-in-Fine-clause-by_text c =
    by_text _ c.bytes-bytes.result.now c.args.text.now c.build.result c.bytes-bytes.ensures
    c.in-Fine.ensures.scanned c.build.ensures
