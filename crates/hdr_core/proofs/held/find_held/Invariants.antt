use Rattle.std.proofs.Common.{◌≡◌, drop}
use Rattle.hdr_core.specs.Held.{held_at}
use Rattle.hdr_core.specs.InMemory.{held_files}
use Rattle.hdr_core.proofs.held.find_held.Given as goal

-- the files that were gone over are not of this path
abbrev pub invariant-loop-file : goal.invariant-loop-file
invariant-loop-file l =
    held_at (held_files l.files) l.path ≡ held_at (held_files (drop l.file-index l.files)) l.path
