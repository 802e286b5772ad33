use Rattle.class_views.proofs.Members.{members_in_one_step}
use Rattle.class_views.proofs.member_laws.members_come_in_one_step.Goals as goal

pub returns : goal.returns
returns c =
    λ world sought all name d none e empty. members_in_one_step world name sought all d none e
    empty
