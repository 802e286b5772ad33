use Rattle.std.proofs.Common.{refl, ◌∷◌, []}
use Rattle.java_types.specs.Types.{type_text}
use Rattle.descriptor_sig.proofs.Writing.{two_written, one_more, all_written}
use Rattle.descriptor_sig.proofs.write.write_each_after.Goals as goal

pub loop-ty-preserved : goal.loop-ty-preserved
loop-ty-preserved c =
    one_more (λ ty. c.args.mark ∷ type_text ty) c.loop-ty.ty-index c.args.types.now
    c.ty-item.result
    c.args.out.now.items c.loop-ty.out.items c.write_type.new.out.items
    c.loop-ty-test.true c.ty-item.is c.loop-ty.invariant
    (two_written c.loop-ty.out.items (c.args.mark ∷ []) (type_text c.ty-item.result)
    c.put.new.out.items c.write_type.new.out.items (c.args.mark ∷ type_text c.ty-item.result)
    c.in_ok-put.ensures c.in_ok-write_type.ensures refl)

pub returns : goal.returns
returns c =
    all_written (λ ty. c.args.mark ∷ type_text ty) c.loop-ty.ty-index c.args.types.now
    c.args.out.now.items c.loop-ty.out.items c.loop-ty-test.false c.loop-ty.invariant
