use Rattle.std.proofs.Common.{◌≡◌, ◌∷◌, ◌++◌, take}
use Rattle.std.specs.List.{flat_map}
use Rattle.java_types.specs.Types.{type_text}
use Rattle.descriptor_sig.proofs.write.write_each_after.Given as goal

abbrev pub invariant-loop-ty : goal.invariant-loop-ty
invariant-loop-ty l =
    l.out.items ≡ l.initial.out.items
    ++ flat_map (λ ty. l.mark ∷ type_text ty) (take l.ty-index l.types)
