use Rattle.std.proofs.Common.{vec_len, ◌+◌}
use Rattle.hdr_core.proofs.folders.list_below.Given as goal

abbrev pub decreases-loop-folder : goal.decreases-loop-folder
decreases-loop-folder g l = l.walk.left + vec_len l.walk.folders
