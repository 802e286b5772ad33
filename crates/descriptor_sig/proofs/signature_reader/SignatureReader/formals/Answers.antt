use Rattle.std.proofs.Common.{refl}
use Rattle.std.proofs.lemmas.Result.{err_from_is_err_and}
use Rattle.descriptor_sig.proofs.Leading.{leads_ok, leads_err}
use Rattle.descriptor_sig.proofs.SignatureSteps.{inside_leads, inside_ok, inside_err}
use Rattle.descriptor_sig.proofs.signature_reader.SignatureReader.formals.Goals as goal

pub returns-in_err-formals : goal.returns-in_err-formals
returns-in_err-formals c =
    leads_err (inside_leads c.args.self.now c.next.new.self c.next.result c.next.ensures.taken)
    (inside_err c.next.new.self c.types.new.self c.types.new.self _ c.in_err-formals.ensures)
    c.from_residual.result (err_from_is_err_and c.from_residual.result c.from_residual.ensures.1)

pub returns : goal.returns
returns c =
    leads_ok (inside_leads c.args.self.now c.next.new.self c.next.result c.next.ensures.taken)
    (inside_ok c.next.new.self c.types.new.self c.next-2.new.self c.next-2.result
    c.in_ok-formals.formals c.in_ok-formals.ensures c.next-2.ensures.taken) refl
