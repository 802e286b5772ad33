use Rattle.class_writer.proofs.Bytes.{layout_is_bytes}
use Rattle.class_writer.proofs.Spelled.{layout_spells}
use Rattle.class_writer.proofs.Valid.{needs_fit, items_are_bytes}
use Rattle.class_writer.proofs.laws.written_is_spelled.Goals as goal

pub returns-clause-spelled : goal.returns-clause-spelled
returns-clause-spelled c = layout_spells

pub returns-clause-bytes : goal.returns-clause-bytes
returns-clause-bytes c = λ d valid.
    layout_is_bytes d (needs_fit d valid) (items_are_bytes d valid)
