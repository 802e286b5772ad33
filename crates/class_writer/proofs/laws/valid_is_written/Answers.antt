use Rattle.class_writer.proofs.Valid.{not_refused}
use Rattle.class_writer.proofs.laws.valid_is_written.Goals as goal

pub returns : goal.returns
returns c = not_refused
