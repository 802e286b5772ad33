use Rattle.std.proofs.Common.{subst}
use Rattle.client_view.specs.Indexed.{HaveFewMembers}
use Rattle.class_rows.proofs.worlds.world_of.Goals as goal

pub of-requires-clause-members : goal.of-requires-clause-members
of-requires-clause-members c =
    subst HaveFewMembers c.deref.ensures.value
    (c.have_few_members.ensures c.if-have_few_members.true)
