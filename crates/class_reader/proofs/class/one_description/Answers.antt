use Rattle.class_reader.proofs.ClassLaws.{only_one}
use Rattle.class_reader.proofs.class.one_description.Goals as goal

pub returns : goal.returns
returns c = only_one
