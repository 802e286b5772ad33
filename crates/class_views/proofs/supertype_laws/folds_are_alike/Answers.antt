use Rattle.class_views.specs.Alike.{holds}
use Rattle.class_views.proofs.Alike.{folds_alike}
use Rattle.class_views.proofs.supertype_laws.folds_are_alike.Goals as goal

pub returns : goal.returns
returns g c =
    λ h k same related agree step other alike keeps. folds_alike h k (holds related) (holds agree)
    step other (holds same) alike keeps
