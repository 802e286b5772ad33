use Rattle.std.proofs.Common.{refl}
use Rattle.std.proofs.lemmas.Result.{err_from_is_err_and}
use Rattle.descriptor_sig.proofs.Leading.{leads_ok, leads_err, leads_then, splits_ok, splits_err}
use Rattle.descriptor_sig.proofs.SignatureSteps.{method_splits, method_tail_splits}
use Rattle.descriptor_sig.proofs.SignatureSteps.{method_end_splits}
use Rattle.descriptor_sig.proofs.signature_reader.SignatureReader.method_signature.Goals as goal

pub returns-in_err-params : goal.returns-in_err-params
returns-in_err-params c =
    splits_err (method_splits c.args.self.now) c.in_err-params.ensures c.from_residual.result
    (err_from_is_err_and c.from_residual.result c.from_residual.ensures.1)

pub returns-in_err-formals : goal.returns-in_err-formals
returns-in_err-formals c =
    let headed = splits_ok (method_splits c.args.self.now) c.in_ok-params.ensures in
    leads_err headed (splits_err (method_tail_splits c.parameters.new.self)
    c.in_err-formals.ensures
    _ (_, refl, refl)) c.from_residual-in_err-formals.result
    (err_from_is_err_and c.from_residual-in_err-formals.result
    c.from_residual-in_err-formals.ensures.1)

pub returns-in_err-ret : goal.returns-in_err-ret
returns-in_err-ret c =
    let headed = splits_ok (method_splits c.args.self.now) c.in_ok-params.ensures in
    let given = leads_then headed
    (splits_ok (method_tail_splits c.parameters.new.self) c.in_ok-formals.ensures) in
    leads_err given (splits_err (method_end_splits c.formals.new.self) c.in_err-ret.ensures _
    (_, refl, refl)) c.from_residual-in_err-ret.result
    (err_from_is_err_and c.from_residual-in_err-ret.result c.from_residual-in_err-ret.ensures.1)

pub returns-in_err-throws : goal.returns-in_err-throws
returns-in_err-throws c =
    let headed = splits_ok (method_splits c.args.self.now) c.in_ok-params.ensures in
    let given = leads_then headed
    (splits_ok (method_tail_splits c.parameters.new.self) c.in_ok-formals.ensures) in
    let ended = leads_then given
    (splits_ok (method_end_splits c.formals.new.self) c.in_ok-ret.ensures) in
    leads_err ended c.in_err-throws.ensures.built c.from_residual-in_err-throws.result
    (err_from_is_err_and c.from_residual-in_err-throws.result
    c.from_residual-in_err-throws.ensures.1)

pub returns : goal.returns
returns c =
    let headed = splits_ok (method_splits c.args.self.now) c.in_ok-params.ensures in
    let given = leads_then headed
    (splits_ok (method_tail_splits c.parameters.new.self) c.in_ok-formals.ensures) in
    let ended = leads_then given
    (splits_ok (method_end_splits c.formals.new.self) c.in_ok-ret.ensures) in
    leads_ok ended c.in_ok-throws.ensures.built refl
