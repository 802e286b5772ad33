use Rattle.std.proofs.Common.{ap, sym, refl}
use Rattle.std.proofs.lemmas.Result.{err_from_is_err_and}
use Rattle.descriptor_sig.proofs.Leading.{leads_ok, leads_err, leads_then, splits_ok, splits_err}
use Rattle.descriptor_sig.proofs.Leading.{mark_leads, mark_fails}
use Rattle.descriptor_sig.proofs.ParamSteps.{param_splits, bounds_split, param_of}
use Rattle.descriptor_sig.proofs.signature_reader.SignatureReader.parameter.Goals as goal

pub returns-then-not-eats-clause-built : goal.returns-then-not-eats-clause-built
returns-then-not-eats-clause-built c =
    mark_fails 58 _ c.eats.new.self (splits_ok (param_splits c.args.self.now) c.name.ensures.name)
    c.if-not-eats.ensures.0

pub returns-in_err-class_bound-clause-built : goal.returns-in_err-class_bound-clause-built
returns-in_err-class_bound-clause-built c =
    let named = splits_ok (param_splits c.args.self.now) c.name.ensures.name in
    let passed = leads_then named
    (mark_leads 58 c.name.new.self c.eats.new.self c.if-not-eats.ensures) in
    leads_err passed (splits_err (bounds_split c.eats.new.self) c.in_err-class_bound.ensures.built
    _
    (_, refl, refl)) c.from_residual-in_err-class_bound.result
    (err_from_is_err_and c.from_residual-in_err-class_bound.result
    c.from_residual-in_err-class_bound.ensures.1)

pub returns-clause-built : goal.returns-clause-built
returns-clause-built c =
    let named = splits_ok (param_splits c.args.self.now) c.name.ensures.name in
    let passed = leads_then named
    (mark_leads 58 c.name.new.self c.eats.new.self c.if-not-eats.ensures) in
    let bounded = leads_then passed
    (splits_ok (bounds_split c.eats.new.self) c.in_ok-class_bound.ensures.built) in
    leads_ok bounded c.in_ok-interface_bounds.ensures.built
    (ap (λ name. param_of name (
      c.in_ok-class_bound.class_bound,
      c.in_ok-interface_bounds.interface_bounds,
    )) (sym c.in_ok-name.ensures))

pub returns-in_err-interface_bounds-clause-built :
    goal.returns-in_err-interface_bounds-clause-built
returns-in_err-interface_bounds-clause-built c =
    let named = splits_ok (param_splits c.args.self.now) c.name.ensures.name in
    let passed = leads_then named
    (mark_leads 58 c.name.new.self c.eats.new.self c.if-not-eats.ensures) in
    let bounded = leads_then passed
    (splits_ok (bounds_split c.eats.new.self) c.in_ok-class_bound.ensures.built) in
    leads_err bounded c.in_err-interface_bounds.ensures.built
    c.from_residual-in_err-interface_bounds.result
    (err_from_is_err_and c.from_residual-in_err-interface_bounds.result
    c.from_residual-in_err-interface_bounds.ensures.1)
