use Rattle.std.proofs.Common.{◌≤◌, sym, ap, length, rules}
use Rattle.std.specs.Prelude.{if◌then◌else◌}
use Rattle.java_grammar.specs.Reading.{behind_mark}
use Rattle.java_grammar.proofs.Marking.{no_end_yet}
use Rattle.java_grammar.proofs.reader.Reader.semicolon.Goals as goal

pub returns-then-not-is_empty-clause-is : goal.returns-then-not-is_empty-clause-is
returns-then-not-is_empty-clause-is c =
    let some : 1 ≤ length c.self.inside.rest.now = search rules in
    sym (no_end_yet c.self.inside.rest.now c.self.inside.taken c.self.inside.end c.args.self.now
    some c.self.invariant c.self.view_is).semi

pub returns-then-not-is_empty-clause-read : goal.returns-then-not-is_empty-clause-read
returns-then-not-is_empty-clause-read c =
    let some : 1 ≤ length c.self.inside.rest.now = search rules in
    let now = c.args.self.now in
    sym (ap (λ b. if b then behind_mark now else now) (no_end_yet c.self.inside.rest.now
    c.self.inside.taken c.self.inside.end now some c.self.invariant c.self.view_is).semi)
