use Rattle.std.proofs.Common.{refl, sym, ◌∙◌}
use Rattle.file_contents.proofs.Reading.{filled_some, empty_none}
use Rattle.file_contents.proofs.read.stop_at.Goals as goal

pub returns-then-is_empty-clause-none : goal.returns-then-is_empty-clause-none
returns-then-is_empty-clause-none c =
    empty_none c.args.list.items c.args.list.len c.args.list.ok.0
    (sym c.is_empty.ensures ∙ c.if-is_empty.true)

pub returns-clause-some : goal.returns-clause-some
returns-clause-some c = (
  filled_some c.args.list.items c.args.list.len c.args.list.ok.0
      (sym c.is_empty.ensures ∙ c.if-is_empty.false),
  refl,
)
