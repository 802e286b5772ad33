use Rattle.class_views.proofs.OneOfAKind.{one_inner}
use Rattle.class_views.proofs.Viewed.{stripped_view}
use Rattle.class_views.proofs.stripping.strip_shows_the_stripped_view.Goals as goal

pub returns-clause-one : goal.returns-clause-one
returns-clause-one c = stripped_view

pub returns-clause-valid : goal.returns-clause-valid
returns-clause-valid c = λ d valid. stripped_view d (one_inner d valid)
