use Rattle.std.proofs.Common.{refl}
use Rattle.class_views.specs.Supertypes.{fold_at}
use Rattle.class_views.specs.Resolution.{field_resolution, specific, method_resolution}
use Rattle.class_views.specs.Resolution.{interface_method_resolution}
use Rattle.class_views.specs.Membership.{members_at, members}
use Rattle.class_views.specs.Query.{ask, is_hidden}
use Rattle.projection_tests.proofs.answers_agree.Goals as goal

pub returns-clause-surviving : goal.returns-clause-surviving
unfolding ask fold_at field_resolution specific method_resolution interface_method_resolution
    members_at members
returns-clause-surviving c = (refl, refl)

pub returns-clause-unhidden : goal.returns-clause-unhidden
unfolding is_hidden fold_at
returns-clause-unhidden c = refl

pub returns-clause-hidden : goal.returns-clause-hidden
unfolding ask fold_at field_resolution specific method_resolution interface_method_resolution
    members_at members
returns-clause-hidden c = (refl, refl)

pub returns-clause-are_hidden : goal.returns-clause-are_hidden
unfolding is_hidden fold_at
returns-clause-are_hidden c = refl

pub returns-clause-unread : goal.returns-clause-unread
unfolding is_hidden fold_at
returns-clause-unread c = refl

pub returns-clause-lost : goal.returns-clause-lost
unfolding ask fold_at field_resolution specific method_resolution interface_method_resolution
    members_at members
returns-clause-lost c = (refl, refl)

pub returns-clause-initialiser : goal.returns-clause-initialiser
unfolding ask fold_at field_resolution specific method_resolution interface_method_resolution
    members_at members
returns-clause-initialiser c = (refl, refl)

pub returns-clause-gone : goal.returns-clause-gone
unfolding ask fold_at field_resolution specific method_resolution interface_method_resolution
    members_at members
returns-clause-gone c = (refl, refl)
