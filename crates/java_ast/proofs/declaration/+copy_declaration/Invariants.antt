use Rattle.std.proofs.Common.{◌≡◌, take}
use Rattle.java_ast.proofs.declaration.+copy_declaration.Given as goal

abbrev pub invariant-copy_members-loop-member : goal.invariant-copy_members-loop-member
invariant-copy_members-loop-member l = l.copy.items ≡ take l.member-index l.members
