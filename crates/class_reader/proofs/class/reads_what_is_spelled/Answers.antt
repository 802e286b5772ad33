use Rattle.pool_reader.proofs.Laws.{from_AreBytes}
use Rattle.class_reader.proofs.ClassLaws.{class_takes, class_again}
use Rattle.class_reader.proofs.class.reads_what_is_spelled.Goals as goal

pub returns-clause-spelled : goal.returns-clause-spelled
returns-clause-spelled c = λ bytes d fits. class_takes bytes d (from_AreBytes bytes fits)

pub returns-clause-read : goal.returns-clause-read
returns-clause-read c = class_again
