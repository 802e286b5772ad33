use Rattle.std.proofs.Common.{refl}
use Rattle.std.proofs.lemmas.Result.{err_from_is_err_and}
use Rattle.descriptor_sig.proofs.Leading.{leads_ok, leads_err}
use Rattle.descriptor_sig.proofs.SignatureSteps.{field_leads}
use Rattle.descriptor_sig.proofs.signature_reader.SignatureReader.field_signature.Goals as goal

pub returns-in_err-java_type : goal.returns-in_err-java_type
returns-in_err-java_type c =
    leads_err (field_leads c.args.self.now) c.in_err-java_type.ensures.built c.from_residual.result
    (err_from_is_err_and c.from_residual.result c.from_residual.ensures.1)

pub returns : goal.returns
returns c = leads_ok (field_leads c.args.self.now) c.in_ok-java_type.ensures.built refl
