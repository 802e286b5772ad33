use Rattle.std.proofs.Common.{refl}
use Rattle.std.proofs.lemmas.Result.{err_from_is_err_and}
use Rattle.descriptor_sig.proofs.Leading.{leads_ok, leads_err, leads_then, splits_ok, splits_err}
use Rattle.descriptor_sig.proofs.SignatureSteps.{class_splits, class_tail_splits}
use Rattle.descriptor_sig.proofs.signature_reader.SignatureReader.class_signature.Goals as goal

pub returns-in_err-params : goal.returns-in_err-params
returns-in_err-params c =
    splits_err (class_splits c.args.self.now) c.in_err-params.ensures c.from_residual.result
    (err_from_is_err_and c.from_residual.result c.from_residual.ensures.1)

pub returns-in_err-super_type : goal.returns-in_err-super_type
returns-in_err-super_type c =
    let headed = splits_ok (class_splits c.args.self.now) c.in_ok-params.ensures in
    leads_err headed (splits_err (class_tail_splits c.parameters.new.self)
    c.in_err-super_type.ensures.built _ (_, refl, refl))
    c.from_residual-in_err-super_type.result
    (err_from_is_err_and c.from_residual-in_err-super_type.result
    c.from_residual-in_err-super_type.ensures.1)

pub returns-in_err-interfaces : goal.returns-in_err-interfaces
returns-in_err-interfaces c =
    let headed = splits_ok (class_splits c.args.self.now) c.in_ok-params.ensures in
    let based = leads_then headed
    (splits_ok (class_tail_splits c.parameters.new.self) c.in_ok-super_type.ensures.built) in
    leads_err based c.in_err-interfaces.ensures c.from_residual-in_err-interfaces.result
    (err_from_is_err_and c.from_residual-in_err-interfaces.result
    c.from_residual-in_err-interfaces.ensures.1)

pub returns : goal.returns
returns c =
    let headed = splits_ok (class_splits c.args.self.now) c.in_ok-params.ensures in
    let based = leads_then headed
    (splits_ok (class_tail_splits c.parameters.new.self) c.in_ok-super_type.ensures.built) in
    leads_ok based c.in_ok-interfaces.ensures refl
