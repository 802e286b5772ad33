use Rattle.std.proofs.Common.{◌≡◌, ◌∷◌, ◌++◌, take}
use Rattle.std.specs.List.{flat_map}
use Rattle.java_types.specs.Types.{part_text, arg_text}
use Rattle.descriptor_sig.proofs.write.+writing.Given as goal

abbrev pub invariant-write_parts-loop-part : goal.invariant-write_parts-loop-part
invariant-write_parts-loop-part l =
    l.out.items ≡ l.initial.out.items
    ++ flat_map (λ part. 46 ∷ part_text part) (take l.part-index l.later)

abbrev pub invariant-write_args-loop-arg : goal.invariant-write_args-loop-arg
invariant-write_args-loop-arg l =
    l.out.items ≡ l.initial.out.items ++ flat_map arg_text (take l.arg-index l.args)
