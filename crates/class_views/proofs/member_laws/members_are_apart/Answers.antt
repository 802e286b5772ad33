use Rattle.class_views.proofs.Members.{listed_apart}
use Rattle.class_views.proofs.member_laws.members_are_apart.Goals as goal

pub returns : goal.returns
returns c = listed_apart
