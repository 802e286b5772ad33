-- The first phases of a job: what is told of files, and of names that were declared before. Each
-- phase is a function of all files or items and one of them.
use Rattle.std.specs.Prelude.{ℕ, List, [], ◌∷◌, map, if◌then◌else◌}
use Rattle.std.specs.List.{flat_map, enumerate_from}
use Rattle.hdr_core.specs.declared.code.Code.TheVariants.{C1}
use Rattle.hdr_core.specs.declared.diagnostics.Diag.{Diag}
use Rattle.used_files.specs.Paths.{UsedFile, is_repeated}
use Rattle.file_contents.specs.declared.limits.Limits.{Limits}
use Rattle.file_contents.specs.declared.items.Item.{Item}
use Rattle.file_contents.specs.Reading.{diag_at, reading}
use Rattle.file_contents.specs.Contents.{format_phase, item_name}

-- the first phase that has a diagnostic
abbrev pub or_else : List Diag → List Diag → List Diag
or_else [] later = later
or_else (d ∷ ds) later = d ∷ ds

-- what the bytes of the files give rise to
abbrev pub file_phases : Limits → List UsedFile → List Diag
file_phases limits files = or_else (reading limits files) (format_phase files)

abbrev pub twice_at : List (List ℕ) → ℕ × Item → List Diag
twice_at names n =
    if is_repeated names n.0 then diag_at n.1.file n.1.path C1 (item_name n.1) ∷ [] else []

-- each class or module but the first of its name, local classes too
abbrev pub twice : List Item → List Diag
twice items = flat_map (twice_at (map item_name items)) (enumerate_from 0 items)
