use Rattle.class_views.proofs.OneOfAKind.{each_one_inner}
use Rattle.projection.proofs.Stripping.{strip_shows_less}
use Rattle.projection.proofs.laws.stripping_shows_less.Goals as goal

pub returns-clause-one : goal.returns-clause-one
returns-clause-one c = λ list others one apart. strip_shows_less list others one apart

pub returns-clause-valid : goal.returns-clause-valid
returns-clause-valid c = λ list others valid apart.
    strip_shows_less list others (each_one_inner list valid) apart
