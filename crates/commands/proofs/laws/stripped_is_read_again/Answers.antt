use Rattle.class_desc.specs.Layout.{layout}
use Rattle.class_views.specs.Strip.{strip_class}
use Rattle.commands.proofs.laws.stripped_is_read_again.Goals as goal

pub returns-clause-written : goal.returns-clause-written
returns-clause-written c =
    λ d valid. c.valid_is_written.ensures (strip_class d) (c.stripped_is_valid.ensures d valid)

pub returns-clause-spelled : goal.returns-clause-spelled
returns-clause-spelled c =
    λ d valid. c.written_is_spelled.ensures.spelled (strip_class d)
    (c.stripped_is_valid.ensures d valid)

pub returns-clause-read : goal.returns-clause-read
returns-clause-read c =
    λ d valid. c.reads_what_is_spelled.ensures.read (layout (strip_class d)) (strip_class d)
    (c.written_is_spelled.ensures.spelled (strip_class d) (c.stripped_is_valid.ensures d valid))

pub returns-clause-again : goal.returns-clause-again
returns-clause-again c = λ bytes d fits is.
    let valid =
    c.stripped_is_valid.ensures d
    (bytes, fits, c.reads_what_is_spelled.ensures.spelled bytes d fits is) in
    c.reads_what_is_spelled.ensures.read (layout (strip_class d)) (strip_class d)
    (c.written_is_spelled.ensures.spelled (strip_class d) valid)
