use Rattle.std.proofs.Common.{◌≡◌, take}
use Rattle.java_ast.proofs.types.+copy_type_tree.Given as goal

abbrev pub invariant-copy_args-loop-arg : goal.invariant-copy_args-loop-arg
invariant-copy_args-loop-arg l = l.copy.items ≡ take l.arg-index l.args

abbrev pub invariant-copy_parts-loop-part : goal.invariant-copy_parts-loop-part
invariant-copy_parts-loop-part l = l.copy.items ≡ take l.part-index l.parts
