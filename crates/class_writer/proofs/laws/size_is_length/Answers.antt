use Rattle.class_writer.proofs.Sizes.{items_length}
use Rattle.class_writer.proofs.laws.size_is_length.Goals as goal

pub returns : goal.returns
returns c = items_length
