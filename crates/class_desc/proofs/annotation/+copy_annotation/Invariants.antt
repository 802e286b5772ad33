use Rattle.std.proofs.Common.{◌≡◌, take}
use Rattle.class_desc.proofs.annotation.+copy_annotation.Given as goal

abbrev pub invariant-AnnDesc::copy-loop-pair : goal.invariant-AnnDesc::copy-loop-pair
invariant-AnnDesc::copy-loop-pair l = l.elements.items ≡ take l.pair-index l.pairs

abbrev pub invariant-copy_values-loop-value : goal.invariant-copy_values-loop-value
invariant-copy_values-loop-value l = l.copy.items ≡ take l.value-index l.values
