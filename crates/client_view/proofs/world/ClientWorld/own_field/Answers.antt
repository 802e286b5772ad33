use Rattle.std.proofs.Common.{subst, sym}
use Rattle.member_index.specs.Index.{IsIndexOf}
use Rattle.client_view.specs.Indexed.{HaveFewMembers}
use Rattle.client_view.proofs.world.ClientWorld.own_field.Goals as goal

pub field_named_at-requires-clause-few : goal.field_named_at-requires-clause-few
field_named_at-requires-clause-few c =
    subst HaveFewMembers (sym c.deref.ensures.value) c.self.invariant.members

pub field_named_at-requires-clause-indexed : goal.field_named_at-requires-clause-indexed
field_named_at-requires-clause-indexed c =
    subst (IsIndexOf c.self.inside.members) (sym c.deref.ensures.value)
    c.self.invariant.members_are
