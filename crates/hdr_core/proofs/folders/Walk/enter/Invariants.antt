use Rattle.std.proofs.Common.{vec_len, ◌+◌, ◌≤◌}
use Rattle.hdr_core.proofs.folders.Walk.enter.Given as goal

-- each folder that was met took one of the entries that may be met
abbrev pub invariant-loop-entry : goal.invariant-loop-entry
invariant-loop-entry g l =
    l.self.left + vec_len l.self.folders ≤ l.fn.self.left + vec_len l.fn.self.folders
