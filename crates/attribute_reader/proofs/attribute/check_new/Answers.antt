use Rattle.std.proofs.Common.{true, false, sym, ◌∙◌}
use Rattle.attribute_reader.proofs.Keys.{unseen_by}
use Rattle.attribute_reader.proofs.attribute.check_new.Goals as goal

pub returns-then-is_named : goal.returns-then-is_named
returns-then-is_named c =
    rw c.at.ensures
    (unseen_by c.args.at c.args.name.now c.args.before.now true
    (sym c.is_named.ensures ∙ c.if-is_named.true))

pub returns : goal.returns
returns c =
    unseen_by c.args.at c.args.name.now c.args.before.now false
    (sym c.is_named.ensures ∙ c.if-is_named.false)
