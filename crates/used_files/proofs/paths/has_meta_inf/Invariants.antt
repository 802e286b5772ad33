use Rattle.std.proofs.Common.{◌≡◌, length}
use Rattle.std.specs.List.{list_any}
use denote.Shadow.{shadow}
use denote.Text.{Utf8}
use Rattle.used_files.specs.Paths.{parts_of, front_of, is_meta_inf}
use Rattle.used_files.proofs.paths.has_meta_inf.Given as goal

abbrev pub invariant-loop-folder : goal.invariant-loop-folder
invariant-loop-folder l =
    shadow (Utf8 l.rest)
    × (list_any is_meta_inf (front_of (parts_of l.rest))
    ≡ list_any is_meta_inf (front_of (parts_of l.fn.path)))

abbrev pub decreases-loop-folder : goal.decreases-loop-folder
decreases-loop-folder l = length l.rest
