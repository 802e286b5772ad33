use Rattle.std.proofs.Common.{◌≡◌, take}
use Rattle.java_ast.proofs.annotation.+copy_annotation_tree.Given as goal

abbrev pub invariant-copy_element_args-loop-arg : goal.invariant-copy_element_args-loop-arg
invariant-copy_element_args-loop-arg l = l.copy.items ≡ take l.arg-index l.args

abbrev pub invariant-copy_elements-loop-value : goal.invariant-copy_elements-loop-value
invariant-copy_elements-loop-value l = l.copy.items ≡ take l.value-index l.values
