use Rattle.java_types.specs.Types.{type_text}
use Rattle.descriptor_sig.proofs.Writing.{one_more, all_written}
use Rattle.descriptor_sig.proofs.write.write_types.Goals as goal

pub loop-ty-preserved : goal.loop-ty-preserved
loop-ty-preserved c =
    one_more type_text c.loop-ty.ty-index c.args.types.now c.ty-item.result c.args.out.now.items
    c.loop-ty.out.items c.write_type.new.out.items c.loop-ty-test.true c.ty-item.is
    c.loop-ty.invariant c.in_ok-write_type.ensures

pub returns : goal.returns
returns c =
    all_written type_text c.loop-ty.ty-index c.args.types.now c.args.out.now.items
    c.loop-ty.out.items c.loop-ty-test.false c.loop-ty.invariant
