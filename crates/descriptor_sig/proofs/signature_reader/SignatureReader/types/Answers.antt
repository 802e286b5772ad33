use Rattle.std.proofs.Common.{sym}
use Rattle.std.proofs.lemmas.Result.{err_from_is_err_and}
use Rattle.descriptor_sig.proofs.Leading.{one_more, one_fails, all_done}
use Rattle.descriptor_sig.proofs.ParamSteps.{types_next, types_end}
use Rattle.descriptor_sig.proofs.signature_reader.SignatureReader.types.Goals as goal

pub returns-in_err-java_type : goal.returns-in_err-java_type
returns-in_err-java_type c =
    one_fails c.loop-alloc.types.items c.loop-alloc.invariant
    (types_next c.loop-alloc.self (sym c.loop-alloc-test.ensures)) c.in_err-java_type.ensures.built
    c.from_residual.result (err_from_is_err_and c.from_residual.result c.from_residual.ensures.1)

pub loop-alloc-preserved : goal.loop-alloc-preserved
loop-alloc-preserved c =
    one_more c.loop-alloc.types.items c.loop-alloc.invariant
    (types_next c.loop-alloc.self (sym c.loop-alloc-test.ensures)) c.in_ok-java_type.ensures.built
    c.push.new.self.items c.in_ok-push.ensures.items

pub returns : goal.returns
returns c =
    all_done c.loop-alloc.invariant (types_end c.loop-alloc.self (sym c.loop-alloc-test.ensures))
    c.of.result c.of.ensures
