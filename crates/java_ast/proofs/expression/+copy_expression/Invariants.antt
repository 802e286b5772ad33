use Rattle.std.proofs.Common.{◌≡◌, take}
use Rattle.java_ast.proofs.expression.+copy_expression.Given as goal

abbrev pub invariant-copy_links-loop-link : goal.invariant-copy_links-loop-link
invariant-copy_links-loop-link l = l.copy.items ≡ take l.link-index l.links
