use Rattle.class_views.proofs.Worlds.{chain_steady}
use Rattle.class_views.proofs.supertype_laws.chains_are_steady.Goals as goal

pub returns : goal.returns
returns c = chain_steady
