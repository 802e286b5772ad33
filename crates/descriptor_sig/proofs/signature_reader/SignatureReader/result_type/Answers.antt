use Rattle.descriptor_sig.proofs.Leading.{leads_same}
use Rattle.descriptor_sig.proofs.SignatureSteps.{void_built, result_leads}
use Rattle.descriptor_sig.proofs.signature_reader.SignatureReader.result_type.Goals as goal

pub returns-then-eats : goal.returns-then-eats
returns-then-eats c = void_built c.args.self.now c.eats.new.self c.if-eats.ensures

pub returns : goal.returns
returns c =
    leads_same c.java_type.result (result_leads c.args.self.now c.eats.new.self c.if-eats.ensures)
    c.java_type.ensures.built
