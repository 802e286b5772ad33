use Rattle.descriptor_sig.proofs.Bytes.{names_build}
use Rattle.descriptor_sig.proofs.signature_reader.SignatureReader.name.Goals as goal

pub returns-clause-name : goal.returns-clause-name
returns-clause-name c =
    names_build c.args.self.now c.split_at.result.0.now c.split_at.result.1.now
    c.name_length.result
    c.name_length.ensures.value (cc) (cc)
