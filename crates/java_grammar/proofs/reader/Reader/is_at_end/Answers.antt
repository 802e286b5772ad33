use Rattle.std.proofs.Common.{◌≡◌, ◌≤◌, ◌∙◌, sym, length, false, rules}
use Rattle.java_grammar.proofs.Marking.{no_end_yet}
use Rattle.java_grammar.proofs.reader.Reader.is_at_end.Goals as goal

pub returns-else-is_empty : goal.returns-else-is_empty
returns-else-is_empty c =
    let some : 1 ≤ length c.self.inside.rest.now = search rules in
    let more : c.is_empty.result ≡ false = search rules in
    more ∙ sym (no_end_yet c.self.inside.rest.now c.self.inside.taken c.self.inside.end
    c.args.self.now some c.self.invariant c.self.view_is).end
