use Rattle.std.proofs.Common.{◌+◌, ◌*◌}
use Rattle.answer_table_tests.proofs.squares.+fill+fn-fill-join+arg2+fn-fill-join+arg3.Given as goal

abbrev pub decreases-fill : goal.decreases-fill
decreases-fill g l = 2 * l.workers + 1

abbrev pub decreases-join+arg2 : goal.decreases-join+arg2
decreases-join+arg2 g l = 2 * l.theirs + 2

abbrev pub decreases-join+arg3 : goal.decreases-join+arg3
decreases-join+arg3 g l = 2 * l.ours + 2
