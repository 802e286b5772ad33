use Rattle.class_views.proofs.Stripped.{stripped_valid}
use Rattle.class_views.proofs.stripping.stripped_is_valid.Goals as goal

pub returns : goal.returns
returns c = stripped_valid
