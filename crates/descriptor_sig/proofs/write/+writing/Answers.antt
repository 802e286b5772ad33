use Rattle.std.proofs.Common.{ap, refl, sym, ◌∙◌, ◌++◌, ◌∷◌, [], map}
use Rattle.std.proofs.lemmas.Result.{on_ok_weaker}
use Rattle.java_types.specs.Types.{type_text, part_text, arg_text, parts_text, args_text}
use Rattle.descriptor_sig.proofs.Writing.{two_written, one_more, all_written, parts_written}
use Rattle.descriptor_sig.proofs.Writing.{part_written, args_written, void_written, prim_written}
use Rattle.descriptor_sig.proofs.Writing.{named_written, var_written, array_written}
use Rattle.descriptor_sig.proofs.Writing.{exact_written, extends_written, super_written}
use Rattle.descriptor_sig.proofs.Writing.{any_written}
use Rattle.descriptor_sig.proofs.write.+writing.Goals as goal

-- ---- a type

pub write_type-returns-in-Void : goal.write_type-returns-in-Void
write_type-returns-in-Void t c =
    on_ok_weaker c.put.result (void_written c.args.ty.now c.args.out.now.items c.put.new.out.items
    c.in-Void.is) c.put.ensures

pub write_type-returns-in-Prim : goal.write_type-returns-in-Prim
write_type-returns-in-Prim t c =
    on_ok_weaker c.put-in-Prim.result
    (prim_written c.args.ty.now c.in-Prim.letter c.args.out.now.items c.put-in-Prim.new.out.items
    c.in-Prim.is) c.put-in-Prim.ensures

pub write_type-returns-in_ok-write_parts-in-Named
    : goal.write_type-returns-in_ok-write_parts-in-Named
write_type-returns-in_ok-write_parts-in-Named t c =
    on_ok_weaker c.put-in-Named-2.result
    (named_written c.args.ty.now c.in-Named.parts c.args.out.now.items c.put-in-Named.new.out.items
    c.write_parts.new.out.items c.put-in-Named-2.new.out.items
    c.in-Named.is c.in_ok-put-in-Named.ensures
    (c.in_ok-write_parts-in-Named.ensures
    ∙ ap (λ parts. c.put-in-Named.new.out.items ++ parts_text (map part_text parts))
    c.items.ensures))
    c.put-in-Named-2.ensures

pub write_type-returns-in-Var : goal.write_type-returns-in-Var
write_type-returns-in-Var t c =
    on_ok_weaker c.write_variable.result
    (var_written c.args.ty.now c.in-Var.name c.args.out.now.items c.write_variable.new.out.items
    c.in-Var.is) c.write_variable.ensures

pub write_type-returns-in_ok-write_brackets-in-Array
    : goal.write_type-returns-in_ok-write_brackets-in-Array
write_type-returns-in_ok-write_brackets-in-Array t c =
    on_ok_weaker c.write_type.result
    (λ e. array_written c.args.ty.now c.in-Array.element c.in-Array.dims c.args.out.now.items
    c.write_brackets.new.out.items c.write_type.new.out.items
    c.in-Array.is c.in_ok-write_brackets-in-Array.ensures
    (e ∙ ap (λ ty. c.write_brackets.new.out.items ++ type_text ty) c.get.ensures))
    c.write_type.ensures

-- ---- the parts of a class

pub write_parts-loop-part-preserved : goal.write_parts-loop-part-preserved
write_parts-loop-part-preserved t c =
    one_more (λ part. 46 ∷ part_text part) c.loop-part.part-index c.in-Some.later.now
    c.part-item.result c.write_part.new.out.items c.loop-part.out.items
    c.write_part-in-loop-part.new.out.items
    c.loop-part-test.true c.part-item.is c.loop-part.invariant
    (two_written c.loop-part.out.items (46 ∷ []) (part_text c.part-item.result) c.put.new.out.items
    c.write_part-in-loop-part.new.out.items (46 ∷ part_text c.part-item.result)
    c.in_ok-put.ensures c.in_ok-write_part-2.ensures refl)

pub write_parts-returns : goal.write_parts-returns
write_parts-returns t c =
    let all = all_written (λ part. 46 ∷ part_text part) c.loop-part.part-index c.in-Some.later.now
    c.write_part.new.out.items c.loop-part.out.items c.loop-part-test.false
    c.loop-part.invariant in
    parts_written c.in-Some.first.now c.in-Some.later.now c.args.out.now.items
    c.write_part.new.out.items c.loop-part.out.items c.in_ok-write_part.ensures all
    ∙ ap (λ parts. c.args.out.now.items ++ parts_text (map part_text parts))
    (sym c.in-Some.ensures.cases.0)

pub write_part-returns : goal.write_part-returns
write_part-returns t c =
    on_ok_weaker c.write_args.result
    (λ e. part_written c.args.part.now c.args.out.now.items c.extend_from_slice.new.self.items
    c.write_args.new.out.items
    (c.in_ok-extend_from_slice.ensures.items
    ∙ ap (λ name. c.args.out.now.items ++ name) c.bytes.ensures)
    (e ∙ ap (λ args. c.extend_from_slice.new.self.items ++ args_text (map arg_text args))
    c.items.ensures))
    c.write_args.ensures

-- ---- type arguments

pub write_args-loop-arg-preserved : goal.write_args-loop-arg-preserved
write_args-loop-arg-preserved t c =
    one_more arg_text c.loop-arg.arg-index c.args.args.now c.arg-item.result c.put.new.out.items
    c.loop-arg.out.items c.write_arg.new.out.items c.loop-arg-test.true c.arg-item.is
    c.loop-arg.invariant c.in_ok-write_arg.ensures

pub write_args-returns : goal.write_args-returns
write_args-returns t c =
    let all = all_written arg_text c.loop-arg.arg-index c.args.args.now c.put.new.out.items
    c.loop-arg.out.items c.loop-arg-test.false c.loop-arg.invariant in
    on_ok_weaker c.put-2.result (args_written c.args.args.now c.args.out.now.items
    c.put.new.out.items c.loop-arg.out.items c.put-2.new.out.items
    (sym c.is_empty.ensures ∙ c.if-is_empty.false) c.in_ok-put.ensures all) c.put-2.ensures

pub write_arg-returns-in-Exact : goal.write_arg-returns-in-Exact
write_arg-returns-in-Exact t c =
    on_ok_weaker c.write_type.result
    (exact_written c.args.arg.now c.in-Exact.ty c.args.out.now.items c.write_type.new.out.items
    c.in-Exact.is) c.write_type.ensures

pub write_arg-returns-in_ok-put-in-Extends : goal.write_arg-returns-in_ok-put-in-Extends
write_arg-returns-in_ok-put-in-Extends t c =
    on_ok_weaker c.write_type-in-Extends.result
    (extends_written c.args.arg.now c.in-Extends.ty c.args.out.now.items c.put.new.out.items
    c.write_type-in-Extends.new.out.items c.in-Extends.is c.in_ok-put-in-Extends.ensures)
    c.write_type-in-Extends.ensures

pub write_arg-returns-in_ok-put-in-Super : goal.write_arg-returns-in_ok-put-in-Super
write_arg-returns-in_ok-put-in-Super t c =
    on_ok_weaker c.write_type-in-Super.result
    (super_written c.args.arg.now c.in-Super.ty c.args.out.now.items c.put-in-Super.new.out.items
    c.write_type-in-Super.new.out.items c.in-Super.is c.in_ok-put-in-Super.ensures)
    c.write_type-in-Super.ensures

pub write_arg-returns-in-Any : goal.write_arg-returns-in-Any
write_arg-returns-in-Any t c =
    on_ok_weaker c.put-in-Any.result
    (any_written c.args.arg.now c.args.out.now.items c.put-in-Any.new.out.items c.in-Any.is)
    c.put-in-Any.ensures
