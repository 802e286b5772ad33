use Rattle.class_views.proofs.Worlds.{made_settled}
use Rattle.class_views.proofs.supertype_laws.folds_settle.Goals as goal

pub returns : goal.returns
returns g c = λ step world name depth none enough. made_settled world step name none depth enough
