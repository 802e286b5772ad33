use Rattle.std.proofs.Common.{refl}
use Rattle.class_views.specs.Supertypes.{fold_at}
use Rattle.class_views.specs.Resolution.{field_resolution, specific, method_resolution}
use Rattle.class_views.specs.Resolution.{interface_method_resolution}
use Rattle.class_views.specs.Membership.{members_at, members}
use Rattle.class_views.specs.Query.{ask, is_hidden}
use Rattle.class_views_tests.proofs.answers_agree.Goals as goal

pub returns-clause-fields : goal.returns-clause-fields
unfolding ask fold_at field_resolution specific method_resolution interface_method_resolution
    members_at members
returns-clause-fields c = refl

pub returns-clause-rings : goal.returns-clause-rings
unfolding ask fold_at field_resolution specific method_resolution interface_method_resolution
    members_at members
returns-clause-rings c = refl

pub returns-clause-interfaces : goal.returns-clause-interfaces
unfolding ask fold_at field_resolution specific method_resolution interface_method_resolution
    members_at members
returns-clause-interfaces c = refl

pub returns-clause-classes : goal.returns-clause-classes
unfolding ask fold_at field_resolution specific method_resolution interface_method_resolution
    members_at members
returns-clause-classes c = refl

pub returns-clause-declared : goal.returns-clause-declared
unfolding ask fold_at field_resolution specific method_resolution interface_method_resolution
    members_at members
returns-clause-declared c = refl

pub returns-clause-choice : goal.returns-clause-choice
unfolding ask fold_at field_resolution specific method_resolution interface_method_resolution
    members_at members
returns-clause-choice c = refl

pub returns-clause-access : goal.returns-clause-access
unfolding ask fold_at field_resolution specific method_resolution interface_method_resolution
    members_at members
returns-clause-access c = refl

pub returns-clause-hiding : goal.returns-clause-hiding
unfolding is_hidden fold_at
returns-clause-hiding c = refl
