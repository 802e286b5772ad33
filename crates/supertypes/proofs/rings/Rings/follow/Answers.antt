use Rattle.std.proofs.Common.{◌∙◌, sym}
use Rattle.supertypes.proofs.rings.Rings.follow.Goals as goal

pub join-requires-clause-back : goal.join-requires-clause-back
join-requires-clause-back c = sym c.standing.ensures ∙ c.in-Open.is

pub pass-requires-clause-done : goal.pass-requires-clause-done
pass-requires-clause-done c = sym c.standing.ensures ∙ c.in-Done.is
