use Rattle.class_views.proofs.Members.{members_equation}
use Rattle.class_views.proofs.member_laws.members_come_from_supertypes.Goals as goal

pub returns : goal.returns
returns c = λ world key all name d none e. members_equation world name none key all d e
