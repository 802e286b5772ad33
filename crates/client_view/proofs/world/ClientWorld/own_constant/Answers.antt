use Rattle.std.proofs.Common.{subst, sym}
use Rattle.member_index.specs.Index.{IsIndexOf}
use Rattle.client_view.specs.Indexed.{HaveFewMembers}
use Rattle.client_view.proofs.world.ClientWorld.own_constant.Goals as goal

pub constant_at-requires-clause-few : goal.constant_at-requires-clause-few
constant_at-requires-clause-few c =
    subst HaveFewMembers (sym c.deref.ensures.value) c.self.invariant.members

pub constant_at-requires-clause-indexed : goal.constant_at-requires-clause-indexed
constant_at-requires-clause-indexed c =
    subst (IsIndexOf c.self.inside.members) (sym c.deref.ensures.value)
    c.self.invariant.members_are
