use Rattle.std.proofs.Common.{◌≡◌, length}
use denote.Shadow.{shadow}
use denote.Text.{Utf8}
use Rattle.used_files.specs.Paths.{last_part}
use Rattle.used_files.proofs.paths.last_part.Given as goal

abbrev pub invariant-loop-folder : goal.invariant-loop-folder
invariant-loop-folder l = shadow (Utf8 l.rest) × (last_part l.rest ≡ last_part l.fn.path)

abbrev pub decreases-loop-folder : goal.decreases-loop-folder
decreases-loop-folder l = length l.rest
