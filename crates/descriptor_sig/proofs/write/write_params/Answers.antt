use Rattle.std.proofs.Common.{sym, ◌∙◌}
use Rattle.std.proofs.lemmas.Result.{on_ok_weaker}
use Rattle.java_types.specs.Types.{param_text}
use Rattle.descriptor_sig.proofs.Writing.{one_more, all_written, params_written}
use Rattle.descriptor_sig.proofs.write.write_params.Goals as goal

pub loop-param-preserved : goal.loop-param-preserved
loop-param-preserved c =
    one_more param_text c.loop-param.param-index c.args.params.now c.param-item.result
    c.put.new.out.items c.loop-param.out.items c.write_param.new.out.items c.loop-param-test.true
    c.param-item.is c.loop-param.invariant c.in_ok-write_param.ensures

pub returns : goal.returns
returns c =
    let all = all_written param_text c.loop-param.param-index c.args.params.now c.put.new.out.items
    c.loop-param.out.items c.loop-param-test.false c.loop-param.invariant in
    on_ok_weaker c.put-2.result (params_written c.args.params.now c.args.out.now.items
    c.put.new.out.items c.loop-param.out.items c.put-2.new.out.items
    (sym c.is_empty.ensures ∙ c.if-is_empty.false) c.in_ok-put.ensures all) c.put-2.ensures
