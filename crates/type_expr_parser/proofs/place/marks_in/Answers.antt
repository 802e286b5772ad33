use Rattle.std.proofs.Common.{◌≡◌, ◌<◌, rules}
use Rattle.java_grammar.specs.Parts.{part_of}
use Rattle.java_grammar.specs.Tests.{angles}
use Rattle.type_expr_parser.proofs.Places.{size_alone, size_angles}
use Rattle.type_expr_parser.proofs.place.marks_in.Goals as goal

pub returns-then-angles-eq0-clause-counted : goal.returns-then-angles-eq0-clause-counted
returns-then-angles-eq0-clause-counted c =
    let size : c.angles-angles.result ≡ angles (part_of c.args.token.now) = search rules in
    let none : c.angles-angles.result ≡ 0 = search rules in
    size_alone c.args.token.now c.angles-angles.result size none

pub returns-else-angles-eq0-clause-counted : goal.returns-else-angles-eq0-clause-counted
returns-else-angles-eq0-clause-counted c =
    let size : c.angles-angles.result ≡ angles (part_of c.args.token.now) = search rules in
    let some : 0 < c.angles-angles.result = search rules in
    size_angles c.args.token.now c.angles-angles.result size some
