use Rattle.std.proofs.Common.{◌≡◌, map, drop}
use Rattle.std.specs.Prelude.{string_bytes, find}
use Rattle.command_line.specs.Words.{is_archive}
use Rattle.command_line.proofs.job.first_archive.Given as goal

abbrev pub invariant-loop-word : goal.invariant-loop-word
invariant-loop-word l =
    find is_archive (map string_bytes (drop l.word-index l.words))
    ≡ find is_archive (map string_bytes l.words)
