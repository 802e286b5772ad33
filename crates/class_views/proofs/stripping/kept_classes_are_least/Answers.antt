use Rattle.class_views.specs.Kept.{is_no_local, names_class, is_kept}
use Rattle.class_views.proofs.Staying.{least}
use Rattle.class_views.proofs.stripping.kept_classes_are_least.Goals as goal

pub returns : goal.returns
unfolding is_kept
returns c = λ list. least is_no_local names_class list
