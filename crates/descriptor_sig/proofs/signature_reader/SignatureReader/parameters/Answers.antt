use Rattle.std.proofs.Common.{◌∙◌}
use Rattle.std.proofs.lemmas.Result.{err_from_is_err_and}
use Rattle.descriptor_sig.proofs.Leading.{one_more, one_fails, all_done}
use Rattle.descriptor_sig.proofs.ParamSteps.{no_params, params_lead, param_next, params_end}
use Rattle.descriptor_sig.proofs.signature_reader.SignatureReader.parameters.Goals as goal

pub returns-then-not-eats : goal.returns-then-not-eats
returns-then-not-eats c =
    no_params c.args.self.now c.eats.new.self c.if-not-eats.ensures c.of.result
    (c.of.ensures ∙ c.new.ensures.items)

pub loop-alloc-init : goal.loop-alloc-init
loop-alloc-init c =
    params_lead c.args.self.now c.eats.new.self c.if-not-eats.ensures c.new-params.result.items
    c.new-params.ensures.items

pub returns-in_err-parameter : goal.returns-in_err-parameter
returns-in_err-parameter c =
    one_fails c.loop-alloc.params.items c.loop-alloc.invariant
    (param_next c.loop-alloc.self c.eats-in-loop-alloc.new.self c.loop-alloc-test.ensures)
    c.in_err-parameter.ensures.built c.from_residual.result
    (err_from_is_err_and c.from_residual.result c.from_residual.ensures.1)

pub loop-alloc-preserved : goal.loop-alloc-preserved
loop-alloc-preserved c =
    one_more c.loop-alloc.params.items c.loop-alloc.invariant
    (param_next c.loop-alloc.self c.eats-in-loop-alloc.new.self c.loop-alloc-test.ensures)
    c.in_ok-parameter.ensures.built c.push.new.self.items c.in_ok-push.ensures.items

pub returns : goal.returns
returns c =
    all_done c.loop-alloc.invariant
    (params_end c.loop-alloc.self c.eats-in-loop-alloc.new.self c.loop-alloc-test.ensures)
    c.of-2.result c.of-2.ensures
