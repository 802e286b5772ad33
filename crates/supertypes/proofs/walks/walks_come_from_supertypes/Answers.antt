use Rattle.supertypes.proofs.Settled.{settled}
use Rattle.supertypes.proofs.walks.walks_come_from_supertypes.Goals as goal

pub returns : goal.returns
returns c = λ graph start free. settled graph start free
