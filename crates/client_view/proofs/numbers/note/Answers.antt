use Rattle.std.proofs.Common.{rules, ◌≡◌, None, Some}
use Rattle.std.specs.BTreeMap.{get, Updates}
use Rattle.std.specs.Cmp.Lexicographic.{slice_cmp}
use Rattle.std.specs.Ordering.{nat_cmp}
use Rattle.client_view.proofs.Noted.{noted_after}
use Rattle.client_view.proofs.numbers.note.Goals as goal

pub returns-clause-noted : goal.returns-clause-noted
returns-clause-noted c =
    let updates : Updates (slice_cmp nat_cmp) c.args.numbers.now c.insert.new.self
    c.args.name.now (Some c.args.number) = search rules in
    let new : get (slice_cmp nat_cmp) c.args.numbers.now c.args.name.now ≡ None =
    search rules in
    noted_after c.args.numbers.now c.insert.new.self c.args.name.now c.args.number updates new
