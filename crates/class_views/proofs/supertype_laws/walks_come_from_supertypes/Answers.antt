use Rattle.class_views.proofs.Worlds.{walk_equation}
use Rattle.class_views.proofs.supertype_laws.walks_come_from_supertypes.Goals as goal

pub returns : goal.returns
returns c = walk_equation
