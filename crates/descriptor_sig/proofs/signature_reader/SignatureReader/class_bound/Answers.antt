use Rattle.std.proofs.Common.{sym, refl}
use Rattle.std.proofs.lemmas.Result.{err_from_is_err_and}
use Rattle.descriptor_sig.proofs.Leading.{leads_ok, leads_err}
use Rattle.descriptor_sig.proofs.ParamSteps.{no_bound, bound_leads}
use Rattle.descriptor_sig.proofs.signature_reader.SignatureReader.class_bound.Goals as goal

pub returns-then-not-is_before_type-clause-built :
    goal.returns-then-not-is_before_type-clause-built
returns-then-not-is_before_type-clause-built c =
    no_bound c.args.self.now (sym c.if-not-is_before_type.ensures)

pub returns-in_err-java_type-clause-built : goal.returns-in_err-java_type-clause-built
returns-in_err-java_type-clause-built c =
    leads_err (bound_leads c.args.self.now (sym c.if-not-is_before_type.ensures))
    c.in_err-java_type.ensures.built c.from_residual.result
    (err_from_is_err_and c.from_residual.result c.from_residual.ensures.1)

pub returns-clause-built : goal.returns-clause-built
returns-clause-built c =
    leads_ok (bound_leads c.args.self.now (sym c.if-not-is_before_type.ensures))
    c.in_ok-java_type.ensures.built refl
