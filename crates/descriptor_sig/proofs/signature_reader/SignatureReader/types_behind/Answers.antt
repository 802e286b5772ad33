use Rattle.std.proofs.Common.{ap, length, arith}
use Rattle.std.proofs.lemmas.Result.{err_from_is_err_and}
use Rattle.descriptor_sig.proofs.Leading.{one_more, one_fails, all_done}
use Rattle.descriptor_sig.proofs.ParamSteps.{marked_next, marked_end}
use Rattle.descriptor_sig.proofs.signature_reader.SignatureReader.types_behind.Goals as goal

pub returns-in_err-java_type-clause-built : goal.returns-in_err-java_type-clause-built
returns-in_err-java_type-clause-built c =
    one_fails c.loop-alloc.types.items c.loop-alloc.invariant.built
    (marked_next c.args.mark c.loop-alloc.self c.eats.new.self c.loop-alloc-test.ensures)
    c.in_err-java_type.ensures.built c.from_residual.result
    (err_from_is_err_and c.from_residual.result c.from_residual.ensures.1)

pub loop-alloc-preserved : goal.loop-alloc-preserved
loop-alloc-preserved c = record {
  built =
      one_more c.loop-alloc.types.items c.loop-alloc.invariant.built
      (marked_next c.args.mark c.loop-alloc.self c.eats.new.self c.loop-alloc-test.ensures)
      c.in_ok-java_type.ensures.built c.push.new.self.items c.in_ok-push.ensures.items;
  shrinks = omega (arith, ap length c.loop-alloc-test.ensures, c.in_ok-java_type.ensures.shrinks);
}

pub returns-clause-built : goal.returns-clause-built
returns-clause-built c =
    all_done c.loop-alloc.invariant.built
    (marked_end c.args.mark c.loop-alloc.self c.eats.new.self c.loop-alloc-test.ensures)
    c.of.result
    c.of.ensures
